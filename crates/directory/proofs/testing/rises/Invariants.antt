-- `testing::rises` meets its contract. The loop's invariant: `fine` is right about the entries passed.
use Prim.Native.Nat.{◌-◌, ◌≤◌}
use Rattle.index.specs.work.Checks.{Says}
use Rattle.directory.specs.work.Entries.{Steps}
use Rattle.directory.proofs.testing.rises.Given as goal

abbrev pub invariant-loop-x : goal.invariant-loop-x
invariant-loop-x l = (l.x ≤ 1024) × Says (Steps l.directory l.at l.x) l.fine

abbrev pub decreases-loop-x : goal.decreases-loop-x
decreases-loop-x l = 1024 - l.x
