-- Each appointment before number i passes.
use Rattle.std.proofs.Common.{ℕ, true, ◌<◌}
use Rattle.appointments.specs.work.Listed.{entry}
use Rattle.appointments.proofs.testing.all_pass.Given as goal

abbrev pub invariant-loop-i : goal.invariant-loop-i
invariant-loop-i g l = (k : ℕ) → k < l.i → goal.F-post g l.test (entry l.list k) true
