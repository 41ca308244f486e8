-- From the parts of a slip and the tests to the check's answer.
use Prim.Native.Nat.{ℕ, ◌^◌, ◌<◌}
use mathlib.Core.Bool.{Bool}
use mathlib.Core.Path.{◌≡◌, refl}
use mathlib.Core.List.{List, [], ◌∷◌}
use mathlib.Core.Logic.{inl, inr}
use native.Mathlib.Omega.{arith}
use lib.Bits.{bit_and}
use Rattle.std.specs.Prelude.{Result, Ok, Err, IsErrAnd}
use Rattle.index.specs.declared.refusals.Refusal.{Refusal}
use Rattle.index.specs.declared.refusals.Refusal.TheVariants as refusal
use Rattle.index.specs.Letters.{right_count, Mask}
use Rattle.index.specs.Numbers.{Answers, Each, number, yes_no}
use Rattle.index.specs.Block.{IsName}
use Rattle.index.specs.work.Checks.{Says}
use Rattle.index.proofs.laws.Answer.{says_same}
use Rattle.index.proofs.laws.Refusing.{some, means_refused}
use Rattle.index.proofs.laws.Firsts.{passed, refuses, passed_first, first_all, answers_first}
use Rattle.index.proofs.laws.block.Masks.{four}
use Rattle.rights.specs.Groups.{Open}
use Rattle.rights.specs.Held.{Passes, chain_limit}
use Rattle.rights.specs.Through.{through_needs, ThroughAnswers}
use Rattle.rights.proofs.laws.questions.OneAnswer.{said_yes}
use Rattle.rights.proofs.laws.questions.Letting.{Named, all_named, through_refused}
use Rattle.slips.specs.Slip.{Slip}
use Rattle.slips.specs.Calls.{OneRight, IsChain, check_needs, Judged, ChecksSlip, CheckAnswers}
use Rattle.slips.specs.work.Tested.{IsRight}
use Rattle.slips.proofs.laws.Rights.{one_of_right, for_right, none_left_lem, one_left}

-- What the filters and exclusive groups let through, for the right that is named.
module _ {right k : ℕ} (w : IsRight right k) where
  -- Its mask is below 16.
  pub right_small : right < 2 ^ right_count
  right_small = four (λ j. right ≡ 2 ^ j → right < 2 ^ right_count) (λ e. omega arith) (λ e. omega arith) (λ e. omega arith) (λ e. omega arith) k w.few w.is

module _ (b : List ℕ) (u o : ℕ) {right k mask : ℕ} (w : IsRight right k) (lets : Mask mask (λ k. Passes b o k × Open chain_limit b u o)) where
  pub stopped : bit_and mask right ≡ 0 → Passes b o k → Open chain_limit b u o → ⊥
  stopped e p q = none_left_lem mask k (rw w.is at e) ((lets.1 k w.few).1 (p, q))

  pub let_by : (bit_and mask right ≡ 0 → ⊥) → Passes b o k × Open chain_limit b u o
  let_by ne = (lets.1 k w.few).0 (one_left mask k (rw w.is at ne))

module _ (b : List ℕ) (u o right : ℕ) (us os : List ℕ) where
  abbrev AllNames : Type 0
  AllNames = Each IsName us × Each IsName os

  abbrev Chains : Type 0
  Chains = IsChain us × IsChain os

  -- The requirements of a check after those of the block, the user and the object.
  abbrev rest : List (ℕ × Type 0)
  rest = (4, AllNames) ∷ (5, OneRight right) ∷ (11, Chains) ∷ []

  refused : (r : Result Bool Refusal) (e : Refusal) → IsErrAnd r (λ x. x ≡ e) → ChecksSlip b u o right us os (number e, 0)
      → CheckAnswers b u o right us os r
  unfolding CheckAnswers
  refused = means_refused yes_no 0 (ChecksSlip b u o right us os)

  -- Refused for the block, the user or the object.
  pub check_unnamed : (r : Result Bool Refusal) (e : Refusal) → IsErrAnd r (λ x. x ≡ e) → ThroughAnswers b u o (Err e)
      → CheckAnswers b u o right us os r
  unfolding ChecksSlip check_needs
  check_unnamed r e is t = refused r e is (through_refused b u o (λ n. (n, 0)) rest (Judged b u o right us os) e t)

  module _ (named : Named b u o) where
    check_refused : (r : Result Bool Refusal) (e : Refusal) → IsErrAnd r (λ x. x ≡ e) → Answers rest (number e)
        → CheckAnswers b u o right us os r
    unfolding ChecksSlip check_needs
    check_refused r e is a =
        refused r e is
        (passed_first (λ n. (n, 0)) (through_needs b u o) rest (Judged b u o right us os) (number e, 0) (all_named b u o named)
        (refuses (λ n. (n, 0)) (Judged b u o right us os) rest (some e) a))

    -- In their order: the names of the lists, the right, the chains.
    pub refused_names : (r : Result Bool Refusal) (e : Refusal) → IsErrAnd r (λ x. x ≡ e) → Answers ((4, AllNames) ∷ []) (number e)
        → CheckAnswers b u o right us os r
    refused_names r e is a = check_refused r e is (answers_first ((4, AllNames) ∷ []) ((5, OneRight right) ∷ (11, Chains) ∷ []) (some e) a)

    module _ (names : Answers ((4, AllNames) ∷ []) 0) where
      all_names : AllNames
      all_names = (passed ((4, AllNames) ∷ []) (omega arith) refl names).0

      pub refused_right : (OneRight right → ⊥) → CheckAnswers b u o right us os (Err refusal.Mask)
      refused_right none = check_refused _ refusal.Mask refl (inr (all_names, inl (none, refl)))

      module _ {k : ℕ} (w : IsRight right k) where
        one : OneRight right
        one = one_of_right w

        pub refused_chains : (r : Result Bool Refusal) (e : Refusal) → IsErrAnd r (λ x. x ≡ e) → Answers ((11, Chains) ∷ []) (number e)
            → CheckAnswers b u o right us os r
        refused_chains r e is a = check_refused r e is (inr (all_names, inr (one, a)))

        -- All requirements are met.
        module _ (chains : Answers ((11, Chains) ∷ []) 0) where
          both_chains : Chains
          both_chains = (passed ((11, Chains) ∷ []) (omega arith) refl chains).0

          pub check_says : (t : Bool) → Says (Slip b u o k us os) t → CheckAnswers b u o right us os (Ok t)
          unfolding CheckAnswers ChecksSlip check_needs
          check_says t s =
              let f = for_right (λ k. Slip b u o k us os) w in
              passed_first (λ n. (n, 0)) (through_needs b u o) rest (Judged b u o right us os) (0, yes_no t) (all_named b u o named)
              (first_all (λ n. (n, 0)) (Judged b u o right us os) (0, yes_no t) rest (all_names, (one, (both_chains, tt)))
              (said_yes _ t (says_same t f.1 f.0 s)))
