-- For proofs only: what the piece readers of the code answer, as readings of the bytes that are left, and the text of a set
-- from a record on.
use Rattle.std.specs.Prelude.{ℕ, ◌≡◌, Bool, true, false, List, [], ◌∷◌, ◌++◌, length, drop, Result, Ok, Err}
use Rattle.index.specs.declared.Kind.{Kind}
use Rattle.index.specs.Text.{Entry, Writes, entry_text, text_of, Place}
use Rattle.index.specs.declared.text.reading.Piece.{Piece}
use Rattle.index.specs.declared.text.reading.Piece.TheVariants.{Number, Mark, Letters, Wrong}
use Rattle.index.specs.work.Reading.{Parsed}
use Rattle.index.specs.work.Reading.Parsed.{got, wrong}

-- What a reader's answer says: that x was read. A reader has a case for what it looks for, and answers no other.
abbrev pub SeesNumber : List ℕ → Piece → Parsed ℕ → Type 0
SeesNumber text (Number n c) x = x ≡ got n (drop c.at text)
SeesNumber text (Mark c) x = ⊥
SeesNumber text (Letters c) x = ⊥
SeesNumber text (Wrong c) x = x ≡ wrong (drop c.at text)

abbrev pub SeesMark : List ℕ → Piece → Parsed ℕ → Type 0
SeesMark text (Number n c) x = ⊥
SeesMark text (Mark c) x = x ≡ got 59 (drop c.at text)
SeesMark text (Letters c) x = ⊥
SeesMark text (Wrong c) x = x ≡ wrong (drop c.at text)

-- The letters of a record: their counts are in a lent array.
abbrev pub SeesLetters : List ℕ → Piece → List ℕ → Parsed (List ℕ) → Type 0
SeesLetters text (Number n c) cs x = ⊥
SeesLetters text (Mark c) cs x = ⊥
SeesLetters text (Letters c) cs x = x ≡ got cs (drop c.at text)
SeesLetters text (Wrong c) cs x = x ≡ wrong (drop c.at text)

-- A record: the number is its id, and its counts are in a lent array.
abbrev pub SeesEntry : List ℕ → Piece → List ℕ → Parsed Entry → Type 0
SeesEntry text (Number n c) cs x = x ≡ got (record { id = n; counts = cs }) (drop c.at text)
SeesEntry text (Mark c) cs x = ⊥
SeesEntry text (Letters c) cs x = ⊥
SeesEntry text (Wrong c) cs x = x ≡ wrong (drop c.at text)

-- The place that a piece has: the one after it, or, where it is wrong, that of the first byte that may not stand there.
abbrev pub place_in : Piece → ℕ
place_in (Number n c) = c.at
place_in (Mark c) = c.at
place_in (Letters c) = c.at
place_in (Wrong c) = c.at

-- The text is what some set of the kind is written as, which has n records; or no set is written so, and n is its place.
abbrev pub Scanned : Kind → List ℕ → Result ℕ ℕ → Type 0
Scanned kind text (Ok n) = (es : List Entry) × Writes kind es text × (length es ≡ n)
Scanned kind text (Err n) = ((es : List Entry) → Writes kind es text → ⊥) × Place kind text n

-- A record as it is added to the text of a set: with `;` before it where the text has begun.
abbrev pub next_text : Bool → Entry → List ℕ
next_text true e = 59 ∷ entry_text e
next_text false e = entry_text e

-- Each record with `;` before it.
abbrev pub more : List Entry → List ℕ
more [] = []
more (e ∷ es) = 59 ∷ (entry_text e ++ more es)

-- What the text of a set has for the records es, where it has begun or has not.
abbrev pub rest : Bool → List Entry → List ℕ
rest true es = more es
rest false es = text_of es
