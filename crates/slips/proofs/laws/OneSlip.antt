-- No second answer to a check satisfies the same promise; and of the finder only which of the shortest slips it is.
use Prim.Native.Nat.{ℕ, ◌+◌}
use mathlib.Core.Path.{◌≡◌, sym, ap, ◌∙◌}
use mathlib.Core.List.{List}
use mathlib.Core.Logic.{◌⊎◌, inl, inr}
use native.Mathlib.Omega.{arith}
use Rattle.std.specs.Prelude.{Bool, Result}
use Rattle.index.specs.declared.refusals.Refusal.{Refusal}
use Rattle.index.proofs.laws.OneFirst.{one_first, both_first}
use Rattle.rights.specs.Held.{Holds, chain_limit}
use Rattle.rights.proofs.laws.questions.OneAnswer.{one_yes, answer_once}
use Rattle.slips.specs.Slip.{Slip}
use Rattle.slips.specs.Calls.{ForRight, check_needs, Judged, ChecksSlip, CheckAnswers, Outcome, find_needs, Found, NoneFound, FindsSlip}
use Rattle.slips.proofs.laws.Naming.{slip_holds}
use Rattle.slips.proofs.laws.Rights.{right_of_one}

module _ (b : List ℕ) (u o right : ℕ) (us os : List ℕ) where
  pub one_check : (a c : ℕ × ℕ) → ChecksSlip b u o right us os a → ChecksSlip b u o right us os c → a ≡ c
  unfolding ChecksSlip
  one_check = one_first (λ n. (n, 0)) (check_needs b u o right us os) (Judged b u o right us os) (one_yes (ForRight right (λ k. Slip b u o k us os)))

  pub one_check_answer : (r s : Result Bool Refusal) → CheckAnswers b u o right us os r → CheckAnswers b u o right us os s → r ≡ s
  unfolding CheckAnswers
  one_check_answer = answer_once (ChecksSlip b u o right us os) one_check

  -- ---- the finder

  found_holds : (a : Outcome) → Found b u o right us os a → ForRight right (Holds chain_limit b u o)
  found_holds a (xs, ys, (k, h, e, p), q) = (k, h, e, slip_holds p.slip)

  -- Two answers to one call are the same, or both are slips.
  pub two_finds : (a c : Outcome) → FindsSlip b u o right us os a → FindsSlip b u o right us os c
      → (a ≡ c) ⊎ (Found b u o right us os a × Found b u o right us os c)
  unfolding FindsSlip
  two_finds a c p q =
      cases (both_first (λ n. (n, 0, 0, us, os)) (find_needs b u o right us os) (λ a. Found b u o right us os a ⊎ NoneFound b u o right us os a) a c p q)
    where
      both : Found b u o right us os a ⊎ NoneFound b u o right us os a → Found b u o right us os c ⊎ NoneFound b u o right us os c
          → (a ≡ c) ⊎ (Found b u o right us os a × Found b u o right us os c)
      both (inl r) (inl s) = inr (r, s)
      both (inl r) (inr s) = absurd (s.0 (found_holds a r))
      both (inr r) (inl s) = absurd (r.0 (found_holds c s))
      both (inr r) (inr s) = inl (r.1 ∙ sym s.1)

      cases : (a ≡ c) ⊎ ((Found b u o right us os a ⊎ NoneFound b u o right us os a) × (Found b u o right us os c ⊎ NoneFound b u o right us os c))
          → (a ≡ c) ⊎ (Found b u o right us os a × Found b u o right us os c)
      cases (inl e) = inl e
      cases (inr s) = both s.0 s.1

  -- Such slips have as many names, both lists taken together.
  pub as_many : (a c : Outcome) → Found b u o right us os a → Found b u o right us os c → a.1 + a.2 ≡ c.1 + c.2
  as_many a c (xs, ys, (k, h, e, p), q) (xs', ys', (k', h', e', p'), q') =
      let same = (right_of_one (k, h, e, tt)).only k' h' e' in
      let p'' = rw same at p' in
      omega
      (arith, ap (λ (a : Outcome). a.1) q, ap (λ (a : Outcome). a.2) q, ap (λ (a : Outcome). a.1) q', ap (λ (a : Outcome). a.2) q', p.least xs' ys' p''.slip, p''.least xs ys p.slip)
