-- The rights in a mask: what `and` and `or` do to them, and that they fix the mask.
use Prim.Native.Nat.{ℕ, zero, suc, ◌+◌, ◌*◌, ◌-◌, ◌/◌, ◌%◌, ◌^◌, ◌<◌, ◌≤◌, min, max}
use mathlib.Core.Path.{◌≡◌, refl, subst, sym, ap, ◌∙◌}
use mathlib.Core.Logic.{◌↔◌, ◌⊎◌, inl, inr, ⊎_elim}
use native.Mathlib.Omega.{arith}
use native.Mathlib.Nat.{zero-div, div-eq_of_lt, eq-or-lt_of_le, pow-suc, one-mul, div-div-eq-div-mul}
use lib.Bits.{bit_and, bit_or, or_shr, and_shr, or_step, and_step, or_lt, and_le_l}
use lib.Pow.{pow-add, pow-lt, shl-shr}
use Rattle.index.specs.Letters.{In, right_count, all_rights, Mask}
use Rattle.index.proofs.laws.Range.{lt_or_le}

-- ---- one letter

or_bit : (a b j : ℕ) → bit_or a b / 2 ^ j % 2 ≡ max (a / 2 ^ j % 2) (b / 2 ^ j % 2)
or_bit a b j = rw (or_shr a b j) (omega (arith, or_step (a / 2 ^ j) (b / 2 ^ j)))

pub and_bit : (a b j : ℕ) → bit_and a b / 2 ^ j % 2 ≡ min (a / 2 ^ j % 2) (b / 2 ^ j % 2)
and_bit a b j = rw (and_shr a b j) (omega (arith, and_step (a / 2 ^ j) (b / 2 ^ j)))

-- A letter is in a mask or not.
pub in_or_out : (j a : ℕ) → (a / 2 ^ j % 2 ≡ 0) ⊎ In j a
in_or_out j a = go (a / 2 ^ j % 2) (omega arith)
  where
    go : (n : ℕ) → n < 2 → (n ≡ 0) ⊎ (n ≡ 1)
    go zero h = inl refl
    go (suc zero) h = inr refl
    go (suc (suc n)) h = absurd (omega arith)

pub in_or : (a b j : ℕ) → In j (bit_or a b) ↔ (In j a ⊎ In j b)
in_or a b j = (
  (λ h. ⊎_elim (λ z. inr (omega (arith, or_bit a b j))) (λ o. inl o) (in_or_out j a)),
  (λ h. ⊎_elim (λ o. omega (arith, or_bit a b j)) (λ o. omega (arith, or_bit a b j)) h),
)

pub in_and : (a b j : ℕ) → In j (bit_and a b) ↔ (In j a × In j b)
in_and a b j =
    ((λ h. (omega (arith, and_bit a b j), omega (arith, and_bit a b j))), (λ h. omega (arith, and_bit a b j)))

pub in_zero : (j : ℕ) → In j 0 → ⊥
in_zero j h = omega (arith, zero-div (2 ^ j))

-- The mask of letter k has letter k alone.
pub in_power : (k j : ℕ) → In j (2 ^ k) ↔ (j ≡ k)
in_power k j = ((λ h. only h (lt_or_le j k)), (λ e. rw e own))
  where
    own : In k (2 ^ k)
    own = ap (λ (n : ℕ). n / 2 ^ k % 2) (sym (one-mul (2 ^ k))) ∙ ap (λ (n : ℕ). n % 2) (shl-shr 1 k)

    lower : (d : ℕ) → 2 ^ (suc d + j) / 2 ^ j % 2 ≡ 0
    lower d = rw (pow-add 2 (suc d) j, shl-shr (2 ^ suc d) j) (omega (arith, pow-suc 2 d))

    only : In j (2 ^ k) → (j < k) ⊎ (k ≤ j) → j ≡ k
    only h (inl l) =
        let e : suc (k - j - 1) + j ≡ k = omega arith in
        absurd (omega (arith, subst (λ (n : ℕ). 2 ^ n / 2 ^ j % 2 ≡ 0) e (lower (k - j - 1))))
    only h (inr l) = ⊎_elim (λ e. sym e) (λ g. absurd (omega (arith, div-eq_of_lt (pow-lt g)))) (eq-or-lt_of_le l)

-- ---- what holds of each of the four rights

pub four : (P : ℕ → Type 0) → P 0 → P 1 → P 2 → P 3 → (k : ℕ) → k < right_count → P k
four P a b c d zero h = a
four P a b c d (suc zero) h = b
four P a b c d (suc (suc zero)) h = c
four P a b c d (suc (suc (suc zero))) h = d
four P a b c d (suc (suc (suc (suc k)))) h = absurd (omega arith)

pub in_all : (k : ℕ) → k < right_count → In k all_rights
in_all = four (λ k. In k all_rights) refl refl refl refl

-- Of all four, those that are not in a mask below 16.
less_bit : (r : ℕ) → r < 2 ^ right_count → (k : ℕ) → k < right_count → In k (all_rights - r) ↔ (In k r → ⊥)
less_bit r small =
    four (λ k. In k (all_rights - r) ↔ (In k r → ⊥)) (not_in 0 (λ i j. omega arith) (λ z. omega arith))
    (not_in 1 (λ i j. omega arith) (λ z. omega arith)) (not_in 2 (λ i j. omega arith) (λ z. omega arith))
    (not_in 3 (λ i j. omega arith) (λ z. omega arith))
  where
    not_in : (k : ℕ) → (In k (all_rights - r) → In k r → ⊥) → (r / 2 ^ k % 2 ≡ 0 → In k (all_rights - r)) → In k (all_rights - r) ↔ (In k r → ⊥)
    not_in k f g = (f, λ n. ⊎_elim g (λ i. absurd (n i)) (in_or_out k r))

-- ---- masks

-- A mask below 16 by its four letters.
weight : (r : ℕ) → r < 2 ^ right_count → r ≡ r / 2 ^ 0 % 2 + 2 * (r / 2 ^ 1 % 2) + 4 * (r / 2 ^ 2 % 2) + 8 * (r / 2 ^ 3 % 2)
weight r small = omega (arith, div-div-eq-div-mul r 2 2, div-div-eq-div-mul r 4 2, div-div-eq-div-mul r 8 2)

module _ {r : ℕ} {P : ℕ → Type 0} (mask : Mask r P) where
  -- The same mask, said otherwise.
  pub mask_map : (Q : ℕ → Type 0) → ((k : ℕ) → k < right_count → P k ↔ Q k) → Mask r Q
  mask_map Q same = (mask.0, λ k h. ((λ i. (same k h).0 ((mask.1 k h).0 i)), (λ q. (mask.1 k h).1 ((same k h).1 q))))

  -- Those that are in s too.
  pub mask_limited : (s : ℕ) → Mask (bit_and r s) (λ k. P k × In k s)
  mask_limited s = (
    omega (arith, and_le_l r s),
    λ k h. (
      (λ i. let p = (in_and r s k).0 i in ((mask.1 k h).0 p.0, p.1)),
      (λ p. (in_and r s k).1 ((mask.1 k h).1 p.0, p.1)),
    ),
  )

  -- Those of all four that are not in it.
  pub mask_less : Mask (all_rights - r) (λ k. P k → ⊥)
  mask_less = (
    omega arith,
    λ k h. (
      (λ i p. (less_bit r mask.0 k h).0 i ((mask.1 k h).1 p)),
      (λ n. (less_bit r mask.0 k h).1 (λ i. n ((mask.1 k h).0 i))),
    ),
  )

  module _ {s : ℕ} {Q : ℕ → Type 0} (other : Mask s Q) where
    pub mask_either : Mask (bit_or r s) (λ k. P k ⊎ Q k)
    mask_either = (
      or_lt right_count r s mask.0 other.0,
      λ k h. (
        (λ i. ⊎_elim (λ a. inl ((mask.1 k h).0 a)) (λ b. inr ((other.1 k h).0 b)) ((in_or r s k).0 i)),
        (λ p. (in_or r s k).1 (⊎_elim (λ a. inl ((mask.1 k h).1 a)) (λ b. inr ((other.1 k h).1 b)) p)),
      ),
    )

  -- Two masks of the same rights are one.
  pub mask_one : {s : ℕ} → Mask s P → r ≡ s
  mask_one {s} other =
      let bit : (k : ℕ) → k < right_count → r / 2 ^ k % 2 ≡ s / 2 ^ k % 2 =
      λ k h. ⊎_elim
      (λ o. ⊎_elim (λ z. o ∙ sym z) (λ i. absurd (omega (arith, (mask.1 k h).1 ((other.1 k h).0 i)))) (in_or_out k s))
      (λ i. i ∙ sym ((other.1 k h).1 ((mask.1 k h).0 i))) (in_or_out k r) in
      weight r mask.0
      ∙ rw (bit 0 (omega arith), bit 1 (omega arith), bit 2 (omega arith), bit 3 (omega arith)) (sym (weight s other.0))

-- No right, and all four.
pub mask_none : (P : ℕ → Type 0) → ((k : ℕ) → P k → ⊥) → Mask 0 P
mask_none P none = (omega arith, λ k h. ((λ i. absurd (in_zero k i)), (λ p. absurd (none k p))))

pub mask_all : (P : ℕ → Type 0) → ((k : ℕ) → P k) → Mask all_rights P
mask_all P all = (omega arith, λ k h. ((λ i. all k), (λ p. in_all k h)))

-- A mask below 16 is that of its own rights.
pub mask_self : (r : ℕ) → r < 2 ^ right_count → Mask r (λ k. In k r)
mask_self r small = (small, λ k h. ((λ i. i), (λ i. i)))

-- All of the rights asked for are in the mask.
pub mask_covers : {r : ℕ} {P : ℕ → Type 0} (asked : ℕ) → asked < 2 ^ right_count → Mask r (λ k. P k × In k asked)
    → (r ≡ asked) ↔ ((k : ℕ) → k < right_count → In k asked → P k)
mask_covers {r} {P} asked small mask = (
  (λ e k h i. ((mask.1 k h).0 (rw e i)).0),
  (λ all. mask_one mask (mask_map (mask_self asked small) (λ k. P k × In k asked) (λ k h. ((λ i. (all k h i, i)), (λ p. p.1))))),
)
