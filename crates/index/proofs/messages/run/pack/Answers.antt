-- A change is put together.
use native.Mathlib.Omega.{arith}
use Rattle.index.specs.Message.{packed}
use Rattle.index.proofs.messages.run.pack.Goals as goal

pub returns-then-adds : goal.returns-then-adds
unfolding packed
returns-then-adds c = rw c.if-adds.true

pub returns : goal.returns
unfolding packed
returns c = rw c.if-adds.false (omega arith)
