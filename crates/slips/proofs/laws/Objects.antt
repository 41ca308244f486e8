-- The steps to a name of the object's side.
use Prim.Native.Nat.{ℕ}
use mathlib.Core.Path.{◌≡◌}
use mathlib.Core.List.{List}
use borrow.Author.Tests.{ne_eqb}
use Rattle.slips.specs.work.Trails.{at, at_object}

pub at_zero : (steps : List ℕ) {g : ℕ} → g ≡ 0 → at_object steps g ≡ 0
at_zero steps e = rw e

pub at_other : (steps : List ℕ) (g : ℕ) → (g ≡ 0 → ⊥) → at_object steps g ≡ at steps g
at_other steps g ne = rw (ne_eqb g 0 ne)
