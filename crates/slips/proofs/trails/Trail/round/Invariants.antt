-- `trails::Trail::round` meets its contract. The loop's invariant: the round is through with the names before place p.
use Prim.Native.Nat.{ℕ, ◌-◌, ◌≤◌}
use Rattle.slips.specs.work.Trails.{Listed, Trails}
use Rattle.slips.proofs.trails.Trail.round.Given as goal

abbrev pub invariant-loop-p : goal.invariant-loop-p
invariant-loop-p l = ((l.lo ≤ l.p) × ((l.p ≤ l.hi) × (l.hi ≤ l.reached.len))) × (Listed l.self.steps l.reached.names l.reached.len × ((start : ℕ) → Trails l.block.bytes.now l.right.place start l.n l.lo l.hi l.lo 0 l.initial.self.steps l.initial.self.before l.initial.reached.names l.hi → Trails l.block.bytes.now l.right.place start l.n l.lo l.hi l.p 0 l.self.steps l.self.before l.reached.names l.reached.len))

abbrev pub decreases-loop-p : goal.decreases-loop-p
decreases-loop-p l = l.hi - l.p
