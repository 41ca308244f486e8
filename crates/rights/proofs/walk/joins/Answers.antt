-- `walk::joins` meets its contract.
use Prim.Native.Nat.{ℕ}
use mathlib.Core.Path.{◌≡◌, refl}
use mathlib.Core.Bool.{Bool, true, false, ◌&&◌, not}
use borrow.Author.Tests.{eqb-true, eqb-false}
use lib.Dec.{eqb}
use Rattle.index.specs.work.Checks.{Says}
use Rattle.rights.proofs.walk.joins.Goals as goal

says : (a b c : ℕ) (x y : Bool) → eqb a b ≡ x → eqb b c ≡ y → Says ((a ≡ b) × (b ≡ c → ⊥)) (x && not y)
says a b c true true e f = λ p. p.1 (eqb-true b c f)
says a b c true false e f = (eqb-true a b e, eqb-false b c f)
says a b c false y e f = λ p. eqb-false a b e p.0

pub returns : goal.returns
returns c = says c.args.before c.args.old c.args.new _ _ refl refl
