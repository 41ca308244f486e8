-- The halves of a message, half 0 and half 1, and what its tests say of them.
use Prim.Native.Nat.{ℕ, zero, suc, ◌/◌, ◌%◌, ◌<◌, ◌≤◌}
use mathlib.Core.Path.{◌≡◌, refl, sym, ap, ◌∙◌}
use mathlib.Core.Bool.{Bool, true, false, cond}
use mathlib.Core.List.{List, [], ◌∷◌, ◌++◌}
use mathlib.Core.Logic.{◌⊎◌, inl, inr, ⊎_elim, ◌↔◌}
use native.Mathlib.Omega.{arith}
use borrow.Author.Tests.{eqb-true, eqb-false}
use lib.Dec.{eqb}
use Rattle.index.specs.declared.Kind.{Kind}
use Rattle.index.specs.declared.Kind.TheVariants.{Membership, Permission, Filter}
use Rattle.index.specs.Letters.{letter_count, marker_x, may_have, In}
use Rattle.index.specs.Numbers.{Each}
use Rattle.index.specs.Message.{kind_of, kind_number, Half, half_count, flags, present, half_at, halves, previous, new, marker_mask, Marked, Masked, changes}
use Rattle.index.specs.Message.Change.{take, add}
use Rattle.index.specs.Wide.Sent.{plain}
use Rattle.index.specs.declared.messages.beginning.Which.{Which}
use Rattle.index.specs.declared.messages.beginning.Which.TheVariants as which
use Rattle.index.specs.work.Checks.{Says}
use Rattle.index.specs.work.Halves.{half_number}
use Rattle.index.specs.work.Edits.{bit, Ready, Tested}
use Rattle.index.proofs.laws.Answer.{says_same}
use Rattle.index.proofs.laws.Range.{lt_or_le, Listed, listed}
use Rattle.index.proofs.laws.block.MayHave.{AllMay, no_letter, marker_alike}

-- What holds of half 0 and of half 1 holds of each.
pub each_half : (P : ℕ → Type 0) → P 0 → P 1 → (h : ℕ) → h < half_count → P h
each_half P p q zero l = p
each_half P p q (suc zero) l = q
each_half P p q (suc (suc h)) l = absurd (omega arith)

-- The code has no other.
pub half_below : (h : Which) → half_number h < half_count
half_below which.Previous = omega arith
half_below which.New = omega arith

-- What holds of each in two lists, and in both together.
module _ (P : Half → Type 0) where
  pub each_join : (hs gs : List Half) → Each P hs → Each P gs → Each P (hs ++ gs)
  each_join [] gs p q = q
  each_join (h ∷ hs) gs p q = (p.0, each_join hs gs p.1 q)

  pub each_part : (hs gs : List Half) → Each P (hs ++ gs) → Each P hs × Each P gs
  each_part [] gs p = (tt, p)
  each_part (h ∷ hs) gs p = let q = each_part hs gs p.1 in ((p.0, q.0), q.1)

pub differ : true ≡ false → ⊥
differ e = let z : ◌≡◌ {A = ℕ} 0 1 = cc in omega arith

module _ (m : List ℕ) where
  pub there : (h : ℕ) → present m h ≡ true → halves m h ≡ half_at m h ∷ []
  unfolding halves
  there h e = rw e

  pub not_there : (h : ℕ) → present m h ≡ false → halves m h ≡ []
  unfolding halves
  not_there h e = rw e

  -- The test of a half that is present is the test of each.
  pub each_says : (P : Half → Type 0) (h : ℕ) {half : Half} (t : Bool) → present m h ≡ true → half ≡ half_at m h → Says (P half) t
      → Says (Each P (halves m h)) t
  each_says P h t e q s = says_same t (λ p. rw (there h e, ← q) (p, tt)) (λ all. let a = rw (there h e) at all in rw q a.0) s

  -- "flags (1 previous present, 2 new present, 3 both)", in these words.
  module _ (some : (1 ≤ flags m) × (flags m ≤ 3)) where
    pub flags_say : ((flags m ≡ 1) × (present m 0 ≡ true) × (present m 1 ≡ false))
        ⊎ ((flags m ≡ 2) × (present m 0 ≡ false) × (present m 1 ≡ true))
        ⊎ ((flags m ≡ 3) × (present m 0 ≡ true) × (present m 1 ≡ true))
    unfolding present
    flags_say =
        ⊎_elim (λ l. let e : flags m ≡ 1 = omega arith in inl (e, rw e, rw e))
        (λ l.
        ⊎_elim (λ k. let e : flags m ≡ 2 = omega arith in inr (inl (e, rw e, rw e)))
        (λ k. let e : flags m ≡ 3 = omega arith in inr (inr (e, rw e, rw e)))
        (lt_or_le (flags m) 3))
        (lt_or_le (flags m) 2)

    pub previous_alone : present m 1 ≡ false → present m 0 ≡ true
    previous_alone n = ⊎_elim (λ p. p.1) (⊎_elim (λ p. absurd (differ (sym p.2 ∙ n))) (λ p. p.1)) flags_say

  pub changes_previous : present m 0 ≡ true → present m 1 ≡ false → changes (previous m) (new m) ≡ take (half_at m 0) ∷ []
  unfolding changes
  changes_previous e n = rw (there 0 e, not_there 1 n)

  pub changes_new : present m 0 ≡ false → present m 1 ≡ true → changes (previous m) (new m) ≡ add (half_at m 1) ∷ []
  unfolding changes
  changes_new n e = rw (not_there 0 n, there 1 e)

  pub changes_both : present m 0 ≡ true → present m 1 ≡ true
      → changes (previous m) (new m) ≡ take (half_at m 0) ∷ add (half_at m 1) ∷ []
  unfolding changes
  changes_both e f = rw (there 0 e, there 1 f)

-- ---- the markers

-- "kind (1 M": kind 1, and no other number, is M.
pub kind_one : (n : ℕ) → (kind_of n ≡ Membership) ↔ (n ≡ 1)
unfolding kind_of kind_number
kind_one n = go (eqb n 1) (eqb n 2) refl
  where
    go : (s t : Bool) → eqb n 1 ≡ s → (cond s Membership (cond t Permission Filter) ≡ Membership) ↔ (n ≡ 1)
    go true t e = (λ q. eqb-true n 1 e, λ q. refl)
    go false true e = (λ q. absurd (omega (arith, ap kind_number q)), λ q. absurd (eqb-false n 1 e q))
    go false false e = (λ q. absurd (omega (arith, ap kind_number q)), λ q. absurd (eqb-false n 1 e q))

-- One marker, on kind 1: whether a half may have it is whether it is there.
pub there_says : (n kind : ℕ) → 0 < n → n < 3 → kind ≡ 1 → (there : Bool) → Says (Marked n (kind_of kind) there) there
unfolding Marked
there_says n kind some one e true = inr (one, (kind_one kind).1 e, refl)
there_says n kind some one e false = ⊎_elim (λ z. omega arith) (λ m. differ (sym m.2))

-- A marker in its mask is one that its kind may have.
marker_may : (mask : ℕ) (kind : Kind) (k : ℕ) → Marked (mask / marker_mask) kind true → marker_x ≤ k → In k mask → may_have kind k ≡ true
unfolding Marked may_have
marker_may mask kind k marked l i =
    ⊎_elim (λ z. absurd (omega (arith, i, no_letter mask marker_x k (omega arith) l)))
    (λ m.
    ⊎_elim
    (λ h. rw m.1 (marker_alike Membership k l h))
    (λ h. absurd (omega (arith, i, no_letter mask letter_count k (omega (arith, m.0)) h)))
    (lt_or_le k letter_count))
    marked

-- A half's mask without its markers has the same letters below them.
low_bits : (mask : ℕ) → Listed (λ k. bit (mask % marker_mask) k ≡ bit mask k) marker_x
low_bits mask = omega arith

-- Where 3 has passed, 5 looks at the mask byte alone: the markers in the mask are some that the half may have.
pub masked_byte : (h : Half) → Marked (h.mask / marker_mask) h.kind true
    → Masked h ↔ ((0 < h.mask % marker_mask) × AllMay h.kind (h.mask % marker_mask))
unfolding Masked
masked_byte h marked = (
  (λ m. (
    m.0,
    λ k i.
        ⊎_elim (λ l. m.1 k (sym (low k l) ∙ i)) (λ l. absurd (omega (arith, i, no_letter (h.mask % marker_mask) marker_x k (omega arith) l)))
        (lt_or_le k marker_x),
  )),
  (λ p. (p.0, λ k i. ⊎_elim (λ l. p.1 k (low k l ∙ i)) (λ l. high k l i) (lt_or_le k marker_x))),
)
  where
    low : (k : ℕ) → k < marker_x → bit (h.mask % marker_mask) k ≡ bit h.mask k
    low k l = listed (λ k. bit (h.mask % marker_mask) k ≡ bit h.mask k) marker_x (low_bits h.mask) k l

    high : (k : ℕ) → marker_x ≤ k → In k h.mask → may_have h.kind k ≡ true
    high k l i = marker_may h.mask h.kind k marked l i

-- ---- the tests

-- Where they have passed, a half that is present is ready.
pub half_ready : {b m : List ℕ} → Tested b (plain m) → (h : ℕ) → h < half_count → present m h ≡ true → Ready (half_at m h) b
half_ready {b} {m} t =
    let both = each_part (λ h. Ready h b) (previous m) (new m) t.ready in
    each_half (λ h. present m h ≡ true → Ready (half_at m h) b) (λ e. (rw (there m 0 e) at both.0).0) (λ e. (rw (there m 1 e) at both.1).0)
