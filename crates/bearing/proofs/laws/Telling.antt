-- For the code: a yes or no about a block that is tested first, and how two of them make a third.
use Prim.Native.Nat.{ℕ, ◌≤◌}
use mathlib.Core.Path.{refl}
use mathlib.Core.List.{List, [], ◌∷◌}
use mathlib.Core.Logic.{◌↔◌}
use native.Mathlib.Omega.{arith}
use Rattle.index.specs.Numbers.{First, number, yes_no}
use Rattle.index.specs.Block.{IsName, Sized, Good}
use Rattle.index.specs.Calls.{block_needs}
use Rattle.index.proofs.laws.Firsts.{first_map, first_all, first_passed, without_last}
use mathlib.Core.Bool.{Bool, true, false}
use Rattle.std.specs.Prelude.{Result, Ok, Err}
use Rattle.index.specs.declared.refusals.Refusal.{Refusal}
use Rattle.index.proofs.laws.Refusing.{some, means_map}
use Rattle.rights.specs.Held.{chain_limit}
use Rattle.rights.specs.Questions.{YesWhen}
use Rattle.rights.specs.Through.{through_needs}
use Rattle.rights.specs.Near.{Near, near_needs, IsNear, AsksNear}
use Rattle.bearing.specs.work.Telling.{Tells}

abbrev refusal : ℕ → ℕ × ℕ
refusal n = (n, 0)

module _ (b : List ℕ) where
  -- The outcome that is told.
  abbrev pub Told : Type 0 → ℕ × ℕ → Type 0
  Told P a = First refusal (block_needs b) (YesWhen P) a

  -- What is reached.
  pub near_tells : (x z limit : ℕ) → IsName x → IsName z → limit ≤ chain_limit → (r : Result Bool Refusal) → AsksNear b x z limit r → Tells b (Near limit b x z) r
  unfolding Tells AsksNear IsNear near_needs through_needs block_needs
  near_tells x z limit start name few r =
      means_map yes_no 0 (IsNear b x z limit) (Told (Near limit b x z))
      (λ a. without_last refusal (block_needs b) ((4, IsName x × IsName z) ∷ (14, limit ≤ chain_limit) ∷ []) (YesWhen (Near limit b x z)) a ((start, name), (few, tt)))
      r

  -- Of what holds just then the same is told.
  pub tells_map : (P Q : Type 0) → P ↔ Q → (r : Result Bool Refusal) → Tells b P r → Tells b Q r
  unfolding Tells
  tells_map P Q same r =
      means_map yes_no 0 (Told P) (Told Q)
      (λ a. first_map refusal (YesWhen P) a (YesWhen Q) (block_needs b)
      (λ (y : YesWhen P a). (y.0, y.1, ((λ e. same.0 (y.2.0 e)), (λ q. y.2.1 (same.1 q))))))
      r

  pub tells_refused : (P Q : Type 0) (e : Refusal) → Tells b P (Err e) → Tells b Q (Err e)
  unfolding Tells
  tells_refused P Q e t =
      first_map refusal (YesWhen P) (number e, 0) (YesWhen Q) (block_needs b) (λ (y : YesWhen P (number e, 0)). absurd (some e y.0)) t

  pub tells_yes : (P : Type 0) → Sized b → Good b → P → Tells b P (Ok true)
  unfolding Tells block_needs
  tells_yes P sized good p = first_all refusal (YesWhen P) (0, 1) (block_needs b) (sized, (good, tt)) (refl, omega arith, ((λ e. p), (λ h. refl)))

  pub tells_no : (P : Type 0) → Sized b → Good b → (P → ⊥) → Tells b P (Ok false)
  unfolding Tells block_needs
  tells_no P sized good none =
      first_all refusal (YesWhen P) (0, 0) (block_needs b) (sized, (good, tt)) (refl, omega arith, ((λ e. absurd (omega arith)), (λ h. absurd (none h))))

  -- ---- what is told

  passed : (P : Type 0) (v : ℕ) → Told P (0, v) → Sized b × Good b × YesWhen P (0, v)
  unfolding block_needs
  passed P v t =
      let r = first_passed refusal (YesWhen P) (0, v) (λ a. a.0) (λ n. refl) (block_needs b) (omega arith) refl t in
      (r.0.0, r.0.1.0, r.1)

  pub told_yes : (P : Type 0) → Tells b P (Ok true) → Sized b × Good b × P
  unfolding Tells
  told_yes P t = let r = passed P 1 t in (r.0, r.1, r.2.2.0 refl)

  pub told_no : (P : Type 0) → Tells b P (Ok false) → Sized b × Good b × (P → ⊥)
  unfolding Tells
  told_no P t = let r = passed P 0 t in (r.0, r.1, λ p. omega (arith, r.2.2.1 p))
