-- The kind of a number, or none.
use mathlib.Core.Path.{refl}
use native.Mathlib.Omega.{arith}
use Rattle.index.specs.Message.{IsKind, kind_of, KindFrom}
use Rattle.index.proofs.block.kinds.KindTryFromU64.try_from.Goals as goal

pub returns-in-1 : goal.returns-in-1
unfolding IsKind kind_of KindFrom
returns-in-1 c = rw c.in-1.is (omega arith, refl)

pub returns-in-2 : goal.returns-in-2
unfolding IsKind kind_of KindFrom
returns-in-2 c = rw c.in-2.is (omega arith, refl)

pub returns-in-3 : goal.returns-in-3
unfolding IsKind kind_of KindFrom
returns-in-3 c = rw c.in-3.is (omega arith, refl)

pub returns-in_default : goal.returns-in_default
unfolding IsKind KindFrom
returns-in_default c = (λ k. omega (arith, k), refl)
