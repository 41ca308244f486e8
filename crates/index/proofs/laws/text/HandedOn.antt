-- What a reader answers: what was looked for, or a wrong piece, which is handed on.
use Prim.Native.Nat.{ℕ}
use mathlib.Core.Path.{◌≡◌, refl, ap, subst}
use mathlib.Core.List.{List}
use lib.ListN.{drop}
use Rattle.index.specs.declared.text.reading.Cursor.{Cursor}
use Rattle.index.specs.declared.text.reading.Piece.{Piece}
use Rattle.index.specs.declared.text.reading.Piece.TheVariants.{Number, Mark, Letters, Wrong}
use Rattle.index.specs.Text.{Entry}
use Rattle.index.specs.work.Reading.{Parsed, and_then}
use Rattle.index.specs.work.Reading.Parsed.{got, wrong}
use Rattle.index.specs.work.Pieces.{SeesNumber, SeesMark, SeesLetters, SeesEntry}

-- ---- what was looked for

module _ (text : List ℕ) {p : Piece} {c : Cursor} where
  pub is_number : {x : Parsed ℕ} {n : ℕ} → p ≡ Number n c → SeesNumber text p x → x ≡ got n (drop c.at text)
  is_number {x} e s = subst (λ q. SeesNumber text q x) e s

  pub is_mark : {x : Parsed ℕ} → p ≡ Mark c → SeesMark text p x → x ≡ got 59 (drop c.at text)
  is_mark {x} e s = subst (λ q. SeesMark text q x) e s

  pub are_letters : {cs : List ℕ} {x : Parsed (List ℕ)} → p ≡ Letters c → SeesLetters text p cs x → x ≡ got cs (drop c.at text)
  are_letters {cs} {x} e s = subst (λ q. SeesLetters text q cs x) e s

  pub is_entry : {cs : List ℕ} {x : Parsed Entry} {n : ℕ} → p ≡ Number n c → SeesEntry text p cs x
      → x ≡ got (record { id = n; counts = cs }) (drop c.at text)
  is_entry {cs} {x} e s = subst (λ q. SeesEntry text q cs x) e s

-- ---- another piece

-- The piece is wrong, and so is the reading, from its place on.
abbrev pub BothWrong : {A : Type 0} → List ℕ → Piece → Parsed A → Type 0
BothWrong text p x = (c : Cursor) × (p ≡ Wrong c) × (x ≡ wrong (drop c.at text))

-- It has one of the other three cases.
abbrev pub NoNumber : Piece → Type 0
NoNumber p = (n : ℕ) (c : Cursor) → p ≡ Number n c → ⊥

abbrev pub NoMark : Piece → Type 0
NoMark p = (c : Cursor) → p ≡ Mark c → ⊥

abbrev pub NoLetters : Piece → Type 0
NoLetters p = (c : Cursor) → p ≡ Letters c → ⊥

module _ (text : List ℕ) where
  pub no_number : (p : Piece) (x : Parsed ℕ) → NoNumber p → SeesNumber text p x → BothWrong text p x
  no_number (Number n c) x o s = absurd (o n c refl)
  no_number (Mark c) x o s = absurd s
  no_number (Letters c) x o s = absurd s
  no_number (Wrong c) x o s = (c, refl, s)

  pub no_mark : (p : Piece) (x : Parsed ℕ) → NoMark p → SeesMark text p x → BothWrong text p x
  no_mark (Number n c) x o s = absurd s
  no_mark (Mark c) x o s = absurd (o c refl)
  no_mark (Letters c) x o s = absurd s
  no_mark (Wrong c) x o s = (c, refl, s)

  module _ (cs : List ℕ) where
    pub no_letters : (p : Piece) (x : Parsed (List ℕ)) → NoLetters p → SeesLetters text p cs x → BothWrong text p x
    no_letters (Number n c) x o s = absurd s
    no_letters (Mark c) x o s = absurd s
    no_letters (Letters c) x o s = absurd (o c refl)
    no_letters (Wrong c) x o s = (c, refl, s)

    pub no_entry : (p : Piece) (x : Parsed Entry) → NoNumber p → SeesEntry text p cs x → BothWrong text p x
    no_entry (Number n c) x o s = absurd (o n c refl)
    no_entry (Mark c) x o s = absurd s
    no_entry (Letters c) x o s = absurd s
    no_entry (Wrong c) x o s = (c, refl, s)

    -- The record whose piece is wrong is wrong there.
    pub wrong_entry : {A : Type 0} (p : Piece) {x : Parsed A} (f : A → List ℕ → Parsed Entry) → BothWrong text p x → SeesEntry text p cs (and_then x f)
    wrong_entry p f w = rw w.1 (ap (λ x. and_then x f) w.2)
