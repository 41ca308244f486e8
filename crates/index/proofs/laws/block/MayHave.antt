-- Which letters a record of a kind may have, and whether it may have all letters of a mask.
use Prim.Native.Nat.{ℕ, zero, suc, ◌+◌, ◌-◌, ◌/◌, ◌%◌, ◌^◌, ◌<◌, ◌≤◌}
use mathlib.Core.Path.{◌≡◌, refl, sym, ap, subst, ◌∙◌}
use mathlib.Core.Bool.{Bool, true, false, cond, ◌&&◌}
use mathlib.Core.Logic.{⊎_elim, ◌↔◌}
use native.Mathlib.Nat.{zero-div, div-eq_of_lt, div-one, div-div-eq-div-mul, pow-succ', pow-le-pow_right}
use native.Mathlib.Omega.{arith}
use borrow.Author.Tests.{ltb-true, le-ltb, eqb-true, eqb-false, ne_eqb}
use lib.Bits.{bit_and}
use lib.Dec.{eqb, ltb}
use Rattle.index.specs.declared.Kind.{Kind}
use Rattle.index.specs.declared.Kind.TheVariants.{Membership, Permission, Filter}
use Rattle.index.specs.Letters.{letter_count, right_count, all_rights, marker_x, marker_n, may_have, In}
use Rattle.index.specs.Message.{marker_mask}
use Rattle.index.specs.work.Checks.{Says}
use Rattle.index.specs.work.Edits.{Letters, bit}
use Rattle.index.proofs.laws.Range.{lt_or_le}
use Rattle.index.proofs.laws.Tests.{both, all, all_at}
use Rattle.index.proofs.laws.block.Masks.{and_bit, in_and, in_or_out}

-- ---- a letter

-- What holds of the kinds and the letters is computed for each; no kind may have a letter that there is not.
abbrev may_test : (Kind → ℕ → Bool) → ℕ → ℕ → Bool
may_test P i n = all (P Membership) i n && (all (P Permission) i n && all (P Filter) i n)

may_at : (P : Kind → ℕ → Bool) (i n : ℕ) → may_test P i n ≡ true → (kind : Kind) (k : ℕ) → i ≤ k → k < i + n → P kind k ≡ true
may_at P i n e kind k l h = all_at (P kind) i n (of kind) k l h
  where
    of : (kind : Kind) → all (P kind) i n ≡ true
    of Membership = (both (all (P Membership) i n) _ e).0
    of Permission = (both (all (P Permission) i n) (all (P Filter) i n) (both (all (P Membership) i n) _ e).1).0
    of Filter = (both (all (P Permission) i n) (all (P Filter) i n) (both (all (P Membership) i n) _ e).1).1

pub capital : (kind : Kind) (k : ℕ) → k < right_count → may_have kind k ≡ true
unfolding may_have
capital kind k l = may_at may_have 0 right_count refl kind k (omega arith) l

pub below : (kind : Kind) (k : ℕ) → may_have kind k ≡ true → k < letter_count
unfolding may_have
below Membership k e =
    ⊎_elim (λ (h : k < letter_count). h)
    (λ h.
    let n : false ≡ true = rw (le-ltb k right_count (omega arith), ne_eqb k marker_x (omega arith), ne_eqb k marker_n (omega arith)) at e in
    let y : ◌≡◌ {A = ℕ} 0 1 = cc in
    absurd (omega arith))
    (lt_or_le k letter_count)
below Permission k e = omega (arith, ltb-true k marker_x e)
below Filter k e = omega (arith, ltb-true k right_count e)

-- The small letters go together, and so do the markers: a kind may have all of them or none.
abbrev alike : ℕ → Kind → ℕ → Bool
alike first kind k = eqb (cond (may_have kind k) 1 0) (cond (may_have kind first) 1 0)

same_test_lem : (s t : Bool) → eqb (cond s 1 0) (cond t 1 0) ≡ true → s ≡ t
same_test_lem true true e = refl
same_test_lem true false e = let y : ◌≡◌ {A = ℕ} 0 1 = cc in absurd (omega arith)
same_test_lem false true e = let y : ◌≡◌ {A = ℕ} 0 1 = cc in absurd (omega arith)
same_test_lem false false e = refl

pub small_alike : (kind : Kind) (k : ℕ) → right_count ≤ k → k < marker_x → may_have kind k ≡ may_have kind right_count
unfolding may_have
small_alike kind k l h = same_test_lem _ _ (may_at (alike right_count) right_count right_count refl kind k l h)

pub marker_alike : (kind : Kind) (k : ℕ) → marker_x ≤ k → k < letter_count → may_have kind k ≡ may_have kind marker_x
unfolding may_have
marker_alike kind k l h = same_test_lem _ _ (may_at (alike marker_x) marker_x (letter_count - marker_x) refl kind k l h)

pub not_both : {P : Type 0} (kind : Kind) (k : ℕ) → may_have kind k ≡ false → may_have kind k ≡ true → P
not_both kind k n y = let z : ◌≡◌ {A = ℕ} 0 1 = cc in absurd (omega arith)

-- ---- a mask

pub bit_zero : (k : ℕ) → bit 0 k ≡ 0
bit_zero k = rw (zero-div (2 ^ k))

-- A mask below 2 ^ n has no letter from n on, and any other has one.
pub no_letter : (mask n k : ℕ) → mask < 2 ^ n → n ≤ k → bit mask k ≡ 0
no_letter mask n k l h =
    let w : 2 ^ n ≤ 2 ^ k = pow-le-pow_right (omega arith) h in
    let e : mask / 2 ^ k ≡ 0 = div-eq_of_lt (omega arith) in
    rw e

bit_next : (mask k : ℕ) → bit mask (suc k) ≡ bit (mask / 2) k
bit_next mask k = ap (λ (n : ℕ). n % 2) (ap (λ (d : ℕ). mask / d) (pow-succ' 2 k) ∙ sym (div-div-eq-div-mul mask 2 (2 ^ k)))

pub some_letter : (mask : ℕ) → 0 < mask → (k : ℕ) × In k mask
some_letter mask h = go mask mask (omega arith) h
  where
    go : (f n : ℕ) → n ≤ f → 0 < n → (k : ℕ) × In k n
    go zero n l h = absurd (omega arith)
    go (suc f) n l h =
        ⊎_elim (λ (p : 0 < n % 2). (0, rw (div-one n) (omega arith)))
        (λ (p : n % 2 ≤ 0). let (k, e) = go f (n / 2) (omega arith) (omega arith) in (suc k, bit_next n k ∙ e))
        (lt_or_le 0 (n % 2))

pub high_letter : (n mask : ℕ) → 2 ^ n ≤ mask → (k : ℕ) × (n ≤ k) × In k mask
high_letter zero mask l = let (k, e) = some_letter mask (omega arith) in (k, omega arith, e)
high_letter (suc n) mask l =
    let p = pow-succ' 2 n in
    let (k, m, e) = high_letter n (mask / 2) (omega arith) in
    (suc k, omega arith, bit_next mask k ∙ e)

abbrev pub AllMay : Kind → ℕ → Type 0
AllMay kind mask = (k : ℕ) → In k mask → may_have kind k ≡ true

pub all_may : (kind : Kind) (mask : ℕ) → mask < 2 ^ letter_count → ((k : ℕ) → k < letter_count → In k mask → may_have kind k ≡ true)
    → AllMay kind mask
all_may kind mask l each k e =
    ⊎_elim (λ h. each k h e) (λ h. absurd (omega (arith, e, no_letter mask letter_count k l h))) (lt_or_le k letter_count)

-- ---- the mask of the letters that a kind may have

-- A test of it that computes.
abbrev pub letters_test : Kind → ℕ → Bool
letters_test kind r = ltb r (2 ^ letter_count) && all (λ k. eqb (bit r k) (cond (may_have kind k) 1 0)) 0 letter_count

pub letters_test_lem : (kind : Kind) (r : ℕ) → letters_test kind r ≡ true → Letters kind r
letters_test_lem kind r e k =
    let same : ℕ → Bool = λ k. eqb (bit r k) (cond (may_have kind k) 1 0) in
    let p = both (ltb r (2 ^ letter_count)) (all same 0 letter_count) e in
    ⊎_elim
    (λ h. go (may_have kind k) (eqb-true _ _ (all_at same 0 letter_count p.1 k (omega arith) h)))
    (λ h. (
      λ i. absurd (omega (arith, i, no_letter r letter_count k (ltb-true _ _ p.0) h)),
      λ m. absurd (omega (arith, h, below kind k m)),
    ))
    (lt_or_le k letter_count)
  where
    go : (t : Bool) → bit r k ≡ cond t 1 0 → In k r ↔ (t ≡ true)
    go true z = (λ i. refl, λ m. z)
    go false z = (λ i. absurd (omega arith), λ m. let y : ◌≡◌ {A = ℕ} 0 1 = cc in absurd (omega arith))

-- Numbers with the same bits are equal.
same_bits : (a b : ℕ) → ((k : ℕ) → bit a k ≡ bit b k) → a ≡ b
same_bits a b same = go (a + b) a b (omega arith) (omega arith) same
  where
    go : (f a b : ℕ) → a ≤ f → b ≤ f → ((k : ℕ) → bit a k ≡ bit b k) → a ≡ b
    go zero a b l h same = omega arith
    go (suc f) a b l h same =
        let z : a % 2 ≡ b % 2 = rw (div-one a, div-one b) at (same 0) in
        let q : a / 2 ≡ b / 2 = go f (a / 2) (b / 2) (omega arith) (omega arith) (λ k. sym (bit_next a k) ∙ same (suc k) ∙ bit_next b k) in
        omega arith

-- The test of a whole mask.
pub all_says : (kind : Kind) (r : ℕ) → Letters kind r → (mask : ℕ) → Says (AllMay kind mask) (eqb (bit_and mask r) mask)
all_says kind r are mask = go (eqb (bit_and mask r) mask) refl
  where
    go : (t : Bool) → eqb (bit_and mask r) mask ≡ t → Says (AllMay kind mask) t
    go true e = λ k i. (are k).0 ((in_and mask r k).0 (subst (In k) (sym (eqb-true (bit_and mask r) mask e)) i)).1
    go false e = λ all. eqb-false _ _ e (same_bits (bit_and mask r) mask (λ k.
        ⊎_elim (λ o. omega (arith, o, and_bit mask r k)) (λ i. omega (arith, i, (in_and mask r k).1 (i, (are k).1 (all k i)))) (in_or_out k mask)))

-- A letter that the kind may not have is not in the mask.
pub not_in : (kind : Kind) (mask : ℕ) → AllMay kind mask → (k : ℕ) → may_have kind k ≡ false → bit mask k ≡ 0
not_in kind mask all k n = ⊎_elim (λ h. not_both kind k n (all k (omega arith))) (λ h. omega arith) (lt_or_le 0 (bit mask k))

-- As a number, of a mask without markers: a kind that may not have the small letters, M or F, may have the letters of the masks up to 15,
-- and of no mask "above 15".
pub above_fifteen : (kind : Kind) (mask : ℕ) → mask < marker_mask → may_have kind right_count ≡ false → AllMay kind mask ↔ (mask ≤ all_rights)
above_fifteen kind mask s n = (
  λ all.
      ⊎_elim (λ h. omega arith)
      (λ h.
      let (k, l, e) = high_letter right_count mask h in
      ⊎_elim (λ m. not_both kind k (small_alike kind k l m ∙ n) (all k e))
      (λ m. absurd (omega (arith, e, no_letter mask marker_x k s m))) (lt_or_le k marker_x))
      (lt_or_le mask (2 ^ right_count)),
  λ l k e.
      ⊎_elim (λ h. capital kind k h) (λ h. absurd (omega (arith, e, no_letter mask right_count k (omega arith) h)))
      (lt_or_le k right_count),
)
