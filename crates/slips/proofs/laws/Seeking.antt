-- From the tests and what is found to the finder's answer.
use Prim.Native.Nat.{ℕ, ◌≤◌}
use mathlib.Core.Path.{◌≡◌, refl}
use mathlib.Core.List.{List, [], ◌∷◌}
use mathlib.Core.Logic.{◌⊎◌, inl, inr}
use native.Mathlib.Omega.{arith}
use lib.ListN.{length}
use Rattle.std.specs.Prelude.{Option, Some, None, Result, Ok, Err, IsErrAnd}
use Rattle.std.proofs.lemmas.Result.{err_from_is_err_and}
use Rattle.index.specs.declared.refusals.Refusal.{Refusal}
use Rattle.index.specs.declared.refusals.Refusal.TheVariants as refused
use Rattle.index.specs.Numbers.{Answers, number}
use Rattle.index.proofs.laws.Refusing.{some}
use Rattle.index.proofs.laws.Firsts.{passed, refuses, passed_first, first_all}
use Rattle.rights.specs.Held.{Holds, chain_limit}
use Rattle.rights.specs.Through.{through_needs, ThroughAnswers}
use Rattle.rights.proofs.laws.questions.Letting.{Named, all_named, through_refused}
use Rattle.slips.specs.declared.Slip.{Slip as Counts}
use Rattle.slips.specs.Slip.{most_names}
use Rattle.slips.specs.Calls.{OneRight, ForRight, Outcome, find_needs, Found, NoneFound, FindsSlip, SlipMeans, FindAnswers}

module _ (b : List ℕ) (u o right : ℕ) (us os : List ℕ) where
  abbrev Places : Type 0
  Places = (most_names ≤ length us) × (most_names ≤ length os)

  -- The requirements of the finder after those of the block, the user and the object.
  abbrev more : List (ℕ × Type 0)
  more = (5, OneRight right) ∷ (10, Places) ∷ []

  abbrev refusal : ℕ → Outcome
  refusal n = (n, 0, 0, us, os)

  -- An accepted call: a slip, or none.
  abbrev pub Either : Outcome → Type 0
  Either a = Found b u o right us os a ⊎ NoneFound b u o right us os a

  turned : (r : Result (Option Counts) Refusal) (e : Refusal) → IsErrAnd r (λ x. x ≡ e) → FindsSlip b u o right us os (refusal (number e))
      → FindAnswers b u o right us os r us os
  unfolding FindAnswers
  turned r e is p = let q = err_from_is_err_and r is in rw (q.1, q.2) p

  -- Refused for the block, the user or the object.
  pub find_unnamed : (r : Result (Option Counts) Refusal) (e : Refusal) → IsErrAnd r (λ x. x ≡ e) → ThroughAnswers b u o (Err e)
      → FindAnswers b u o right us os r us os
  unfolding FindsSlip find_needs
  find_unnamed r e is t = turned r e is (through_refused b u o refusal more Either e t)

  module _ (named : Named b u o) where
    find_refused : (r : Result (Option Counts) Refusal) (e : Refusal) → IsErrAnd r (λ x. x ≡ e) → Answers more (number e)
        → FindAnswers b u o right us os r us os
    unfolding FindsSlip find_needs
    find_refused r e is a =
        turned r e is
        (passed_first refusal (through_needs b u o) more Either (refusal (number e)) (all_named b u o named) (refuses refusal Either more (some e) a))

    -- In their order: the right, the places.
    pub find_unright : (OneRight right → ⊥) → FindAnswers b u o right us os (Err refused.Mask) us os
    find_unright none = find_refused _ refused.Mask refl (inl (none, refl))

    module _ (one : OneRight right) where
      pub find_unplaced : (r : Result (Option Counts) Refusal) (e : Refusal) → IsErrAnd r (λ x. x ≡ e) → Answers ((10, Places) ∷ []) (number e)
          → FindAnswers b u o right us os r us os
      find_unplaced r e is a = find_refused r e is (inr (one, a))

      -- All requirements are met.
      module _ (told : Answers ((10, Places) ∷ []) 0) where
        both_placed : Places
        both_placed = (passed ((10, Places) ∷ []) (omega arith) refl told).0

        accepted : (a : Outcome) → Either a → FindsSlip b u o right us os a
        unfolding FindsSlip find_needs
        accepted a e =
            passed_first refusal (through_needs b u o) more Either a (all_named b u o named)
            (first_all refusal Either a more (one, (both_placed, tt)) e)

        pub find_accepted : (us' os' : List ℕ) (s : Option Counts) → SlipMeans (λ x y. Either (0, x, y, us', os')) s
            → FindAnswers b u o right us os (Ok s) us' os'
        unfolding FindAnswers
        find_accepted us' os' (Some s) p = (p.0, accepted (0, s.users, s.objects, us', os') p.1)
        find_accepted us' os' None p = accepted (0, 0, 0, us', os') p

        pub find_none : (ForRight right (Holds chain_limit b u o) → ⊥) → FindAnswers b u o right us os (Ok None) us os
        find_none none = find_accepted us os None (inr (none, refl))
