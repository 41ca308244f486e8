-- `making::put` meets its contract. The loop's invariant: the entries passed are written, and nothing else has changed.
use Prim.Native.Nat.{◌-◌, ◌≤◌}
use Rattle.directory.specs.work.Entries.{Put}
use Rattle.directory.proofs.making.put.Given as goal

abbrev pub invariant-loop-at : goal.invariant-loop-at
invariant-loop-at l = (l.from ≤ l.at) × (l.at ≤ l.end) × Put l.from l.at l.value l.initial.directory l.directory

abbrev pub decreases-loop-at : goal.decreases-loop-at
decreases-loop-at l = l.end - l.at
