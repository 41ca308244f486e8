-- `trails::Trail::walk` meets its contract. The loop's invariant: round n may begin.
use Prim.Native.Nat.{◌≤◌}
use Rattle.slips.specs.work.Trails.{Listed, Trails}
use Rattle.slips.proofs.trails.Trail.walk.Given as goal

abbrev pub invariant-loop-n : goal.invariant-loop-n
invariant-loop-n l =
    (l.lo ≤ l.reached.len)
    × (Listed l.self.steps l.reached.names l.reached.len × Trails l.block.bytes.now l.right.place l.start l.n l.lo l.reached.len l.lo 0 l.self.steps l.self.before l.reached.names l.reached.len)
