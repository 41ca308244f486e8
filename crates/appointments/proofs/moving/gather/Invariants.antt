-- Changes are gathered from a list of appointments.
use Rattle.appointments.proofs.laws.Gathered.{Gathered}
use Rattle.appointments.proofs.moving.gather.Given as goal

abbrev pub invariant-loop-i : goal.invariant-loop-i
invariant-loop-i l = Gathered l.list l.adds l.day l.other l.at l.initial.changes l.i l.place l.changes
