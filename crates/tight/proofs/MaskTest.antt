-- A test of a mask that computes: it has just the rights of which a test comes out true.
use Prim.Native.Nat.{ℕ, ◌/◌, ◌%◌, ◌^◌, ◌<◌}
use mathlib.Core.Path.{◌≡◌, refl, sym, ◌∙◌}
use mathlib.Core.Bool.{Bool, true, false, not, ◌&&◌}
use mathlib.Core.Logic.{◌↔◌}
use native.Mathlib.Omega.{arith}
use borrow.Author.Tests.{eqb-true, eq-eqb, ltb-true}
use lib.Dec.{eqb, ltb}
use Rattle.index.specs.Letters.{right_count, In, Mask}
use Rattle.index.proofs.laws.Tests.{both, all, all_at}
use Rattle.rights.proofs.laws.tests.ChainTest.{and_true}

abbrev pub same : Bool → Bool → Bool
same true t = t
same false t = not t

pub same_true : (s t : Bool) → same s t ≡ true → s ≡ t
same_true true true e = refl
same_true true false e = sym e
same_true false true e = e
same_true false false e = refl

-- Two tests at once.
pub both_tests : {P Q : Type 0} (s t : Bool) → (s ≡ true) ↔ P → (t ≡ true) ↔ Q → (s && t ≡ true) ↔ (P × Q)
both_tests s t p q = ((λ e. let h = both s t e in (p.0 h.0, q.0 h.1)), (λ h. and_true (p.1 h.0) (q.1 h.1)))

abbrev masked_test : ℕ → (ℕ → Bool) → ℕ → Bool
masked_test mask t k = same (eqb (mask / 2 ^ k % 2) 1) (t k)

abbrev pub mask_test : ℕ → (ℕ → Bool) → Bool
mask_test mask t = ltb mask (2 ^ right_count) && all (masked_test mask t) 0 right_count

pub mask_test_lem : (mask : ℕ) (t : ℕ → Bool) (P : ℕ → Type 0) → ((k : ℕ) → k < right_count → (t k ≡ true) ↔ P k) → mask_test mask t ≡ true → Mask mask P
mask_test_lem mask t P right e =
    let p = both (ltb mask (2 ^ right_count)) _ e in (
      ltb-true _ _ p.0,
      (λ k l.
          let s = same_true (eqb (mask / 2 ^ k % 2) 1) (t k) (all_at (masked_test mask t) 0 right_count p.1 k (omega arith) l) in
          ((λ i. (right k l).0 (sym s ∙ eq-eqb _ _ i)), (λ h. eqb-true _ _ (s ∙ (right k l).1 h)))),
    )

-- Of the requested rights those of which the test comes out true, which is looked at only then.
abbrev request_test : ℕ → (ℕ → Bool) → ℕ → Bool
request_test request t k = eqb (request / 2 ^ k % 2) 1 && t k

abbrev pub given_test : ℕ → ℕ → (ℕ → Bool) → Bool
given_test request mask t = mask_test mask (request_test request t)

pub given_test_lem : (request mask : ℕ) (t : ℕ → Bool) (P : ℕ → Type 0) → ((k : ℕ) → k < right_count → (t k ≡ true) ↔ P k) → given_test request mask t ≡ true
    → Mask mask (λ k. P k × In k request)
given_test_lem request mask t P right e =
    mask_test_lem mask (request_test request t) _
    (λ k l.
    let both = both_tests _ (t k) (eqb-true (request / 2 ^ k % 2) 1, eq-eqb _ _) (right k l) in
    ((λ e. let h = both.0 e in (h.1, h.0)), (λ h. both.1 (h.1, h.0))))
    e
