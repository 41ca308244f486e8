-- `lookup::lowest` meets its contract. The loop's invariant: what is known of the records outside the window.
use Prim.Native.Nat.{◌+◌, ◌≤◌}
use Rattle.index.specs.Block.{most_records}
use Rattle.rights.proofs.laws.walk.Looking.{Window}
use Rattle.rights.proofs.lookup.lowest.Given as goal

abbrev pub invariant-loop-window : goal.invariant-loop-window
invariant-loop-window l = (1 ≤ l.window) × (l.low + l.window ≤ l.part.from + most_records) × Window l.block.bytes.now l.part.from l.part.end l.name l.low l.window

abbrev pub decreases-loop-window : goal.decreases-loop-window
decreases-loop-window l = l.window
