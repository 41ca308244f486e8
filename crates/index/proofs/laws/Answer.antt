-- What a yes or no that is right says.
use Prim.Native.Nat.{ℕ, ◌<◌}
use mathlib.Core.Path.{◌≡◌, refl, subst}
use mathlib.Core.Bool.{Bool, true, false, not}
use native.Mathlib.Omega.{arith}
use borrow.Author.Tests.{not-true, not-false, ltb-true, ltb-false, eqb-true, eqb-false}
use lib.Dec.{ltb, eqb}
use Rattle.index.specs.work.Checks.{Says}

pub yes_is : {P : Type 0} {t : Bool} → t ≡ true → Says P t → P
yes_is {P} e s = subst (Says P) e s

pub no_is : {P : Type 0} {t : Bool} → t ≡ false → P → Says P t → ⊥
no_is {P} e p s = subst (Says P) e s p

pub yes_not : {P : Type 0} (t : Bool) → not t ≡ false → Says P t → P
yes_not {P} t e s = yes_is {P = P} (not-false t e) s

pub no_not : {P : Type 0} (t : Bool) → not t ≡ true → P → Says P t → ⊥
no_not {P} t e p s = no_is {P = P} (not-true t e) p s

-- The same yes or no is right about whatever holds just then.
pub says_same : {P Q : Type 0} (t : Bool) → (P → Q) → (Q → P) → Says P t → Says Q t
says_same true f g s = f s
says_same false f g s = λ q. s (g q)

-- The tests of two numbers are right about them.
pub less_says : (a b : ℕ) → Says (a < b) (ltb a b)
less_says a b = go (ltb a b) refl
  where
    go : (t : Bool) → ltb a b ≡ t → Says (a < b) t
    go true e = ltb-true a b e
    go false e = λ h. absurd (omega (arith, ltb-false a b e))

pub equal_says : (a b : ℕ) → Says (a ≡ b) (eqb a b)
equal_says a b = go (eqb a b) refl
  where
    go : (t : Bool) → eqb a b ≡ t → Says (a ≡ b) t
    go true e = eqb-true a b e
    go false e = eqb-false a b e
