-- `trails::Trail::trace` meets its contract. The loop's invariant: the names from place n on stand there, and x is the one at n.
use mathlib.Core.Path.{◌≡◌}
use lib.ListN.{get_or}
use Rattle.slips.specs.work.Trails.{at, Traced}
use Rattle.slips.proofs.trails.Trail.trace.Given as goal

abbrev pub invariant-loop-n : goal.invariant-loop-n
invariant-loop-n l = (l.last ≡ at l.self.steps l.to) × ((get_or l.names l.n 0 ≡ l.x) × Traced l.self.steps l.self.before l.to l.n l.initial.names l.names)
