-- `finding::nearest` meets its contract. The loop's invariant: the best of the P records before i.
use Prim.Native.Nat.{◌≤◌}
use Rattle.slips.specs.work.Trails.{Nearest}
use Rattle.slips.proofs.finding.nearest.Given as goal

abbrev pub invariant-loop-i : goal.invariant-loop-i
invariant-loop-i l = (l.initial.i ≤ l.i) × Nearest l.block.bytes.now l.right.place l.users l.objects l.i l.best
