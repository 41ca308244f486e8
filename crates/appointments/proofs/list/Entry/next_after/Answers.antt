-- The next day on which an appointment stands otherwise.
use Rattle.std.proofs.Common.{sym, subst, arith}
use Rattle.appointments.specs.Asking.{Differs, IsFirst}
use Rattle.appointments.specs.work.Listed.{appointment_of}
use Rattle.appointments.proofs.laws.NextDay.{first_from, first_to, first_over}
use Rattle.appointments.proofs.list.Entry.next_after.Goals as goal

pub returns-then-day-days : goal.returns-then-day-days
unfolding appointment_of
returns-then-day-days c =
    let a = appointment_of c.args.self in
    let day = c.args.day in
    let s = c.days-days.ensures in
    (omega arith, subst (IsFirst (Differs a day) day) (sym s.0) (first_from a c.requires day (omega (arith, s.0, c.if-day-days.true))))

pub returns-then-day-days-2 : goal.returns-then-day-days-2
unfolding appointment_of
returns-then-day-days-2 c =
    let a = appointment_of c.args.self in
    let day = c.args.day in
    let s = c.days-days.ensures in (
      omega arith,
      subst (IsFirst (Differs a day) day) (sym s.1)
          (first_to a c.requires day (omega (arith, s.0, c.if-day-days.false)) (omega (arith, s.1, c.if-day-days-2.true))),
    )

pub returns : goal.returns
unfolding appointment_of
returns c = first_over (appointment_of c.args.self) c.requires c.args.day (omega (arith, c.days-days.ensures.1, c.if-day-days-2.false))
