-- A change as a number says what was put into it.
use Prim.Native.Nat.{ℕ, zero, suc, ◌+◌, ◌*◌, ◌/◌, ◌%◌, ◌<◌}
use mathlib.Core.Path.{◌≡◌, refl, sym, ap, ◌∙◌}
use mathlib.Core.Bool.{Bool, true, false, cond}
use mathlib.Core.List.{List, [], ◌∷◌}
use native.Mathlib.Omega.{arith}
use lib.Dec.{eqb}
use lib.ListN.{length, get_or}
use Rattle.index.specs.Numbers.{Each}
use Rattle.index.specs.declared.Kind.{Kind}
use Rattle.index.specs.declared.Kind.TheVariants.{Membership, Permission, Filter}
use Rattle.index.specs.Message.{kind_of, kind_number, Half, packed, packed_kind, packed_half, packed_change}
use Rattle.index.specs.Message.Change.{take, add}
use Rattle.index.specs.work.Edits.{half, change_of, Ready, Prepared}
use Rattle.index.proofs.laws.message.HalfLetters.{half_of}

-- The last digit to the base 2 or 65,536, and the rest.
bit_rest : (a t : ℕ) → a < 2 → (a + 2 * t) / 2 ≡ t
bit_rest a t l = omega arith

bit_last : (a t : ℕ) → a < 2 → (a + 2 * t) % 2 ≡ a
bit_last a t l = omega arith

field_rest : (a t : ℕ) → a < 65536 → (a + 65536 * t) / 65536 ≡ t
field_rest a t l = omega arith

field_last : (a t : ℕ) → a < 65536 → (a + 65536 * t) % 65536 ≡ a
field_last a t l = omega arith

module _ (kind x y mask : ℕ) (lx : x < 65536) (ly : y < 65536) (lm : mask < 65536) where
  abbrev rest : ℕ
  rest = mask + 65536 * (y + 65536 * (x + 65536 * kind))

  half_of_lem : (a : ℕ) → a < 2 → packed_half (a + 2 * rest) ≡ half (kind_of kind) x y mask
  unfolding packed_half packed_kind
  half_of_lem a l =
      rw
      (bit_rest a rest l, field_last mask (y + 65536 * (x + 65536 * kind)) lm, field_rest mask (y + 65536 * (x + 65536 * kind)) lm, field_last y (x + 65536 * kind) ly, field_rest y (x + 65536 * kind) ly, field_last x kind lx, field_rest x kind lx)

  pub unpacked : (adds : Bool) → packed_change (packed adds kind x y mask) ≡ change_of adds (half (kind_of kind) x y mask)
  unfolding packed_change packed
  unpacked true = rw (bit_last 1 rest (omega arith), half_of_lem 1 (omega arith))
  unpacked false = rw (bit_last 0 rest (omega arith), half_of_lem 0 (omega arith))

-- The same where the kind is given by its number.
number_kind : (kind : Kind) → kind_of (kind_number kind) ≡ kind
unfolding kind_of kind_number
number_kind Membership = refl
number_kind Permission = refl
number_kind Filter = refl

pub packed_back : (kind : Kind) (x y mask : ℕ) → x < 65536 → y < 65536 → mask < 65536 → (adds : Bool)
    → packed_change (packed adds (kind_number kind) x y mask) ≡ change_of adds (half kind x y mask)
packed_back kind x y mask lx ly lm adds = rw (unpacked (kind_number kind) x y mask lx ly lm adds, number_kind kind)

-- ---- a list of changes is prepared where each of them is

pub half_change : (n : ℕ) → half_of (packed_change n) ≡ packed_half n
unfolding packed_change
half_change n = go (eqb (n % 2) 0)
  where
    go : (t : Bool) → half_of (cond t (take (packed_half n)) (add (packed_half n))) ≡ packed_half n
    go true = refl
    go false = refl

pub ready_in : {h : Half} {b : List ℕ} (adds : Bool) (n : ℕ) → packed_change n ≡ change_of adds h → Ready h b → Ready (packed_half n) b
ready_in {h} adds n e r = rw (sym (half_change n) ∙ ap half_of e ∙ of adds) r
  where
    of : (t : Bool) → half_of (change_of t h) ≡ h
    of true = refl
    of false = refl

-- What holds of each, by its place.
module _ (P : ℕ → Type 0) where
  pub each_at : (cs : List ℕ) → Each P cs → (i : ℕ) → i < length cs → P (get_or cs i 0)
  each_at [] e i l = absurd (omega arith)
  each_at (n ∷ cs) e zero l = e.0
  each_at (n ∷ cs) e (suc i) l = each_at cs e.1 i (omega arith)

  pub at_each : (cs : List ℕ) → ((i : ℕ) → i < length cs → P (get_or cs i 0)) → Each P cs
  at_each [] f = tt
  at_each (n ∷ cs) f = (f 0 (omega arith), at_each cs (λ i l. f (suc i) (omega arith)))

pub each_prepared : (cs : List ℕ) {b : List ℕ} → Each (λ n. Ready (packed_half n) b) cs → Prepared cs b
each_prepared cs {b} e = each_at (λ n. Ready (packed_half n) b) cs e
