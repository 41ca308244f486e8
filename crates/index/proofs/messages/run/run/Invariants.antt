-- Going on, change by change, or all the way back.
use mathlib.Core.Path.{◌≡◌}
use lib.ListN.{length}
use Rattle.index.specs.work.Edits.{Prepared, Went}
use Rattle.index.proofs.messages.run.run.Given as goal

abbrev pub invariant-loop-i : goal.invariant-loop-i
invariant-loop-i l =
    (length l.b ≡ length l.initial.b)
    × Prepared l.changes l.b
    × Went l.initial.b l.changes l.i l.b
