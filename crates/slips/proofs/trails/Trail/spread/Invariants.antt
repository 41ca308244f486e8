-- `trails::Trail::spread` meets its contract. The loop's invariant: the records of the name before number i have been looked at.
use Prim.Native.Nat.{ℕ, ◌<◌, ◌≤◌}
use mathlib.Core.Path.{◌≡◌}
use lib.ListN.{get_or}
use Rattle.slips.specs.work.Trails.{Listed, Trails}
use Rattle.slips.proofs.trails.Trail.spread.Given as goal

abbrev pub invariant-loop-i : goal.invariant-loop-i
invariant-loop-i l = ((get_or l.firsts l.x 0 ≤ l.i) × (l.initial.reached.len ≤ l.reached.len)) × ((get_or l.reached.names l.p 0 ≡ l.x) × (Listed l.self.steps l.reached.names l.reached.len × ((start lo hi : ℕ) → lo ≤ l.p → l.p < hi → Trails l.block.bytes.now l.right.place start l.n lo hi l.p 0 l.initial.self.steps l.initial.self.before l.initial.reached.names l.initial.reached.len → Trails l.block.bytes.now l.right.place start l.n lo hi l.p l.i l.self.steps l.self.before l.reached.names l.reached.len)))
