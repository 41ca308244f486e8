-- The net mask, right by right: a mask that letters are put into, one after the other, and the decision on each.
use Prim.Native.Nat.{ℕ, suc, ◌+◌, ◌^◌, ◌<◌}
use mathlib.Core.Path.{◌≡◌, refl, sym, subst}
use mathlib.Core.Bool.{Bool, true, false, ◌&&◌, not}
use mathlib.Core.List.{List}
use mathlib.Core.Logic.{◌↔◌, inl, inr, ⊎_elim}
use native.Mathlib.Omega.{arith}
use native.Mathlib.Nat.{eq-or-lt_of_le, div-eq_of_lt, pow-suc}
use lib.Bits.{bit_or, or_lt}
use Rattle.index.specs.Letters.{In, right_count}
use Rattle.index.specs.Block.{count_at, NetAt}
use Rattle.index.specs.work.Checks.{Says}
use Rattle.index.proofs.laws.Answer.{yes_is, no_is}
use Rattle.index.proofs.laws.block.Masks.{in_or, in_power}
use Rattle.index.proofs.laws.Range.{lt_or_le}

-- m is the mask of those of the first n letters that P holds of. Of the four rights that is `Mask m P`.
abbrev pub Joined : (ℕ → Type 0) → ℕ → ℕ → Type 0
Joined P n m = (m < 2 ^ n) × ((k : ℕ) → k < n → In k m ↔ P k)

pub none : (P : ℕ → Type 0) → Joined P 0 0
none P = (omega arith, λ k h. absurd (omega arith))

module _ (P : ℕ → Type 0) (n m : ℕ) (so_far : Joined P n m) where
  -- Letter n, then the letters before it.
  next : (m' : ℕ) → m' < 2 ^ (suc n) → In n m' ↔ P n → ((k : ℕ) → k < n → In k m' ↔ In k m) → Joined P (suc n) m'
  next m' small last others = (
    small,
    λ k h.
        ⊎_elim (λ q. subst (λ (j : ℕ). In j m' ↔ P j) (sym q) last)
        (λ l. ((λ x. (so_far.1 k l).0 ((others k l).0 x)), (λ p. (others k l).1 ((so_far.1 k l).1 p))))
        (eq-or-lt_of_le {n = k} {m = n} (omega arith)),
  )

  -- The code goes by a test t that is right about letter n: the letter's mask is put in, or left out.
  pub put_in : {t : Bool} (m' mask : ℕ) → Says (P n) t → t ≡ true → m' ≡ bit_or m mask → mask ≡ 2 ^ n → Joined P (suc n) m'
  put_in m' mask said taken e is =
      rw (e, is)
      (next (bit_or m (2 ^ n))
      (or_lt (suc n) m (2 ^ n) (omega (arith, so_far.0, pow-suc 2 n)) (omega (arith, so_far.0, pow-suc 2 n)))
      ((λ x. yes_is {P = P n} taken said), (λ p. (in_or m (2 ^ n) n).1 (inr ((in_power n n).1 refl))))
      (λ k l. (
        (λ x. ⊎_elim (λ i. i) (λ i. absurd (omega (arith, (in_power n k).0 i))) ((in_or m (2 ^ n) k).0 x)),
        (λ i. (in_or m (2 ^ n) k).1 (inl i)),
      )))

  pub left_out : {t : Bool} (m' : ℕ) → Says (P n) t → t ≡ false → m' ≡ m → Joined P (suc n) m'
  left_out m' said left e =
      rw e
      (next m (omega (arith, so_far.0, pow-suc 2 n))
      ((λ x. absurd (omega (arith, div-eq_of_lt so_far.0))), (λ p. absurd (no_is {P = P n} left p said)))
      (λ k l. ((λ i. i), (λ i. i))))

-- The decision on right k, by a test x of its capital letter's count and a test y of its small letter's.
pub decided : (b : List ℕ) (i k : ℕ) (x y : Bool) → Says (0 < count_at b i k) x → Says (0 < count_at b i (k + right_count)) y → Says (NetAt b i k) (x && not y)
decided b i k true true capital small = λ h. absurd (omega (arith, h.1))
decided b i k true false capital small = (
  capital,
  ⊎_elim (λ l. absurd (small l)) (λ l. omega arith) (lt_or_le 0 (count_at b i (k + right_count))),
)
decided b i k false y capital small = λ h. capital h.0
