-- The records of a part are looked at one after the other, each against the one before it, and after the last what was joined
-- of them.
use Prim.Native.Nat.{◌≤◌, ◌-◌}
use Rattle.index.proofs.laws.block.Checked.{Passed}
use Rattle.index.proofs.block.checks.part_good.Given as goal

abbrev pub invariant-loop-n : goal.invariant-loop-n
invariant-loop-n l = (l.i ≤ l.n) × (l.n ≤ l.j) × Passed l.b l.kind l.i l.n l.sight

abbrev pub decreases-loop-n : goal.decreases-loop-n
decreases-loop-n l = l.j - l.n
