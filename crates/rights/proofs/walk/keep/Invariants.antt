-- `walk::keep` meets its contract. The loop's invariant: the marks of the names so far are kept.
use Rattle.std.proofs.Common.{◌≡◌, length}
use Rattle.index.specs.Block.{name_count}
use Rattle.rights.proofs.laws.walk.Fronts.{Kept}
use Rattle.rights.proofs.walk.keep.Given as goal

abbrev pub invariant-loop-name : goal.invariant-loop-name
invariant-loop-name l = (length l.to ≡ name_count) × Kept l.names l.from l.initial.to l.name-index l.to
