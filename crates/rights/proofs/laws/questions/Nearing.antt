-- M-113: whether a name is reached: one answer, and what it says to the calls that ask it.
use Prim.Native.Nat.{ℕ, ◌≤◌}
use mathlib.Core.Path.{◌≡◌, refl}
use mathlib.Core.List.{List, [], ◌∷◌}
use mathlib.Core.Logic.{inl, inr}
use native.Mathlib.Omega.{arith}
use Rattle.std.specs.Prelude.{Bool, true, false, Result, Ok, Err}
use Rattle.index.specs.declared.refusals.Refusal.{Refusal}
use Rattle.index.specs.Numbers.{Answers, number}
use Rattle.index.specs.work.Checks.{Says}
use Rattle.index.specs.Calls.{block_needs}
use Rattle.index.proofs.laws.Firsts.{first_sure, refused_first, passed_first}
use Rattle.index.proofs.laws.Refusing.{above}
use Rattle.index.proofs.laws.OneFirst.{one_first}
use Rattle.rights.specs.Held.{chain_limit}
use Rattle.rights.specs.Questions.{YesWhen}
use Rattle.rights.specs.Through.{through_needs}
use Rattle.rights.specs.Near.{Near, near_needs, IsNear, AsksNear}
use Rattle.rights.proofs.laws.questions.Letting.{Named, all_named}
use Rattle.rights.proofs.laws.questions.OneAnswer.{one_yes, said_yes, answer_once}

module _ (b : List ℕ) (x z limit : ℕ) where
  abbrev refusal : ℕ → ℕ × ℕ
  refusal n = (n, 0)

  abbrev Said : ℕ × ℕ → Type 0
  Said a = YesWhen (Near limit b x z) a

  abbrev limit_last : List (ℕ × Type 0)
  limit_last = (14, limit ≤ chain_limit) ∷ []

  -- ---- for the code

  pub names_refused : (e : Refusal) → Answers (through_needs b x z) (number e) → IsNear b x z limit (number e, 0)
  unfolding IsNear near_needs
  names_refused e a = refused_first refusal (through_needs b x z) limit_last Said (number e) (above e) a

  module _ (named : Named b x z) where
    pub limit_refused : (limit ≤ chain_limit → ⊥) → IsNear b x z limit (14, 0)
    unfolding IsNear near_needs
    limit_refused above = passed_first refusal (through_needs b x z) limit_last Said (14, 0) (all_named b x z named) (inl (above, refl))

    module _ (few : limit ≤ chain_limit) where
      -- What is said of a yes or no that is right.
      pub says : (t : Bool) → Says (Near limit b x z) t → AsksNear b x z limit (Ok t)
      unfolding AsksNear IsNear near_needs
      says t right =
          passed_first refusal (through_needs b x z) limit_last Said _ (all_named b x z named) (inr (few, said_yes (Near limit b x z) t right))

      -- ---- for the calls that ask it

      said : (a : ℕ × ℕ) → IsNear b x z limit a → Said a
      unfolding IsNear near_needs through_needs block_needs
      said a = first_sure refusal Said a (near_needs b x z limit) (named.sized, (named.good, ((named.user, named.object), (few, tt))))

      pub near_yes : AsksNear b x z limit (Ok true) → Near limit b x z
      unfolding AsksNear
      near_yes a = (said (0, 1) a).2.0 refl

      pub near_no : AsksNear b x z limit (Ok false) → Near limit b x z → ⊥
      unfolding AsksNear
      near_no a near = omega (arith, (said (0, 0) a).2.1 near)

      pub not_refused : (e : Refusal) → AsksNear b x z limit (Err e) → ⊥
      unfolding AsksNear
      not_refused e a = omega (arith, above e, (said (number e, 0) a).0)

  -- ---- no second answer

  pub one_near : (a c : ℕ × ℕ) → IsNear b x z limit a → IsNear b x z limit c → a ≡ c
  unfolding IsNear
  one_near = one_first refusal (near_needs b x z limit) Said (one_yes (Near limit b x z))

  pub one_asks_near : (r s : Result Bool Refusal) → AsksNear b x z limit r → AsksNear b x z limit s → r ≡ s
  unfolding AsksNear
  one_asks_near = answer_once (IsNear b x z limit) one_near
