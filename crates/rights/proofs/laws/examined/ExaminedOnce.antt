-- M-109: the number of records that a walk examines is one number; the marks of round 0; and marks never lose a right.
use Prim.Native.Nat.{ℕ, suc}
use mathlib.Core.Path.{◌≡◌, refl, sym, subst}
use mathlib.Core.List.{List}
use mathlib.Core.Logic.{◌↔◌}
use native.Mathlib.Omega.{arith}
use Rattle.rights.specs.Chain.{Chain}
use Rattle.rights.specs.Held.{Carries}
use Rattle.rights.specs.Chain.Chain.{here}
use Rattle.rights.specs.Examined.{Mark, MarkBefore, Differs, Examined}
use Rattle.rights.specs.Examined.Examined.{before, round}
use Rattle.rights.proofs.laws.Counting.{counted_once}
use Rattle.rights.proofs.laws.walk.MarksAreChains.{stays, longer}

pub examined_once : {b : List ℕ} {s r t t' : ℕ} → Examined b s r t → Examined b s r t' → t ≡ t'
examined_once before before = refl
examined_once (round {t = t} {n = n} e h) (round {t = t'} {n = n'} e' h') =
    omega (arith, examined_once e e', counted_once h h')

module _ (b : List ℕ) (s : ℕ) where
  -- "in round 0 the start has all four, the others none"
  pub round_zero : (x k : ℕ) → Mark b s 0 x k ↔ (x ≡ s)
  unfolding Mark
  round_zero x k = ((λ c. sym (stays c)), (λ e. subst (λ (z : ℕ). Chain (Carries b k) 0 s z) (sym e) here))

  -- So round 0 examines the records of the start.
  pub first_differs : (x : ℕ) → Differs b s 0 x ↔ (x ≡ s)
  unfolding Differs MarkBefore
  first_differs x = ((λ d. (round_zero x d.0).0 d.2), (λ e. (0, omega arith, (round_zero x 0).1 e, λ n. n)))

  pub never_less : (n x k : ℕ) → MarkBefore b s n x k → Mark b s n x k
  unfolding MarkBefore Mark
  never_less ℕ.zero x k m = absurd m
  never_less (suc n) x k m = longer m
