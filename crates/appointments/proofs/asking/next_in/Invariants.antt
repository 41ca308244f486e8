-- The next day on which another set of a list stands.
use Rattle.appointments.specs.work.Listed.{FirstDay}
use Rattle.appointments.proofs.laws.NextDay.{AnotherOf}
use Rattle.appointments.proofs.asking.next_in.Given as goal

abbrev pub invariant-loop-i : goal.invariant-loop-i
invariant-loop-i l = FirstDay (AnotherOf l.list l.i l.day) l.day l.next
