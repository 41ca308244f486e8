-- `walk::look_up` meets its contract. The loop's invariant: the names so far have been looked up.
use Rattle.std.proofs.Common.{ℕ, ◌<◌}
use Rattle.rights.specs.work.Fronts.{Firsts, Turn}
use Rattle.rights.proofs.walk.look_up.Given as goal

abbrev pub invariant-loop-name : goal.invariant-loop-name
invariant-loop-name l = Firsts l.source.block.bytes.now l.firsts × ((j : ℕ) → j < l.name-index → Turn l.source.block.bytes.now l.names l.firsts j)
