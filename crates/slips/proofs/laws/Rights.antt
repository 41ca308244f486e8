-- The right that a mask names alone.
use Prim.Native.Nat.{ℕ, ◌^◌, ◌<◌}
use mathlib.Core.Path.{◌≡◌, refl}
use mathlib.Core.Logic.{◌↔◌}
use native.Mathlib.Omega.{arith}
use lib.Bits.{bit_and}
use Rattle.index.specs.Letters.{right_count, In}
use Rattle.index.proofs.laws.block.Masks.{four, in_and, in_power, in_zero}
use Rattle.index.proofs.laws.block.MayHave.{some_letter}
use Rattle.slips.specs.Calls.{ForRight, OneRight}
use Rattle.slips.specs.work.Tested.{IsRight}

pub right_is : (k : ℕ) → k < right_count → IsRight (2 ^ k) k
right_is k h = record {
  few = h;
  is = refl;
  only = λ j l e. (in_power k j).0 (rw e ((in_power j j).1 refl));
}

pub right_none : (mask : ℕ) → (mask ≡ 1 → ⊥) → (mask ≡ 2 → ⊥) → (mask ≡ 4 → ⊥) → (mask ≡ 8 → ⊥) → OneRight mask → ⊥
right_none mask a b c d one = four (λ j. mask ≡ 2 ^ j → ⊥) a b c d one.0 one.1 one.2

-- The right that is named, where there is one.
pub right_of_one : {mask : ℕ} (one : OneRight mask) → IsRight mask one.0
right_of_one one = rw one.2 (right_is one.0 one.1)

pub one_of_right : {mask r : ℕ} → IsRight mask r → OneRight mask
one_of_right {r = r} w = (r, w.few, w.is, tt)

-- What holds for the right that it names holds for that right.
pub for_right : {mask r : ℕ} (P : ℕ → Type 0) → IsRight mask r → ForRight mask P ↔ P r
for_right {mask} {r} P w = ((λ p. rw (w.only p.0 p.1 p.2) at p.3), (λ p. (r, w.few, w.is, p)))

-- A mask of rights, cut down to one right, tells whether that one is in it.
module _ (mask k : ℕ) where
  pub none_left_lem : bit_and mask (2 ^ k) ≡ 0 → In k mask → ⊥
  none_left_lem e i = in_zero k (rw e at ((in_and mask (2 ^ k) k).1 (i, (in_power k k).1 refl)))

  pub one_left : (bit_and mask (2 ^ k) ≡ 0 → ⊥) → In k mask
  one_left ne =
      let (j, i) = some_letter (bit_and mask (2 ^ k)) (omega (arith, ne)) in
      let both = (in_and mask (2 ^ k) j).0 i in
      rw ((in_power k j).0 both.1) at both.0
