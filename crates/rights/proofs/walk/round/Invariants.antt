-- `walk::round` meets its contract. The loop's invariant: the round is through with the first j names.
use Rattle.std.proofs.Common.{◌≡◌, length}
use Rattle.index.specs.Block.{name_count}
use Rattle.rights.specs.work.Fronts.{Swept, Counted}
use Rattle.rights.proofs.walk.round.Given as goal

abbrev pub invariant-loop-j : goal.invariant-loop-j
invariant-loop-j l = (length l.to ≡ name_count) × Swept l.block.bytes.now l.carry l.from l.names l.j l.to l.next × Counted l.block.bytes.now l.names l.j l.examined
