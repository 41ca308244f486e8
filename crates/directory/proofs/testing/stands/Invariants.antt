-- `testing::stands` meets its contract. The loop's invariant: the records passed lie between their entries, if the block is good.
use Prim.Native.Nat.{◌-◌, ◌≤◌}
use Rattle.index.specs.Block.{records, Good}
use Rattle.directory.specs.work.Entries.{Stands}
use Rattle.directory.proofs.testing.stands.Given as goal

abbrev pub invariant-loop-j : goal.invariant-loop-j
invariant-loop-j l = (l.i ≤ l.j) × (Good l.block → l.end ≤ records l.block → Stands l.block l.directory l.at l.i l.j)

abbrev pub decreases-loop-j : goal.decreases-loop-j
decreases-loop-j l = l.end - l.j
