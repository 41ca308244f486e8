-- The next day on which another set of a list stands.
use Rattle.std.proofs.Common.{subst, ap, ◌∙◌, arith}
use Rattle.appointments.specs.Appointment.{Appointment, appointment_at}
use Rattle.appointments.specs.Asking.{Differs}
use Rattle.appointments.specs.work.Listed.{entry, appointment_of, FirstDay}
use Rattle.appointments.proofs.laws.NextDay.{another_more}
use Rattle.appointments.proofs.laws.Tested.{of_entry}
use Rattle.appointments.proofs.asking.next_in.Goals as goal

pub next_after-requires : goal.next_after-requires
unfolding entry appointment_at
next_after-requires c = rw c.entry_at.ensures (c.requires.terms c.loop-i.i (omega (arith, c.count_in-i-end.ensures, c.loop-i-test.true)))

pub loop-i-preserved : goal.loop-i-preserved
loop-i-preserved c =
    let l = c.args.list.now in
    let e = ap appointment_of c.entry_at.ensures ∙ of_entry l c.loop-i.i in
    let d = subst (λ (a : Appointment). FirstDay (Differs a c.args.day) c.args.day c.next_after.result) e c.next_after.ensures in
    rw c.earlier-next.ensures (another_more l c.loop-i.i c.args.day c.loop-i.next c.next_after.result c.loop-i.invariant d)
