-- Whether an appointment stands on a day, or a refusal.
use Rattle.std.proofs.Common.{inl, inr, refl, ap, ◌∙◌, arith}
use Rattle.std.proofs.lemmas.Result.{err_from_is_err_and}
use Rattle.index.proofs.laws.Firsts.{refuses, first_all}
use Rattle.index.proofs.laws.Refusing.{some}
use Rattle.appointments.specs.Appointment.{list_size, appointment_at, day_needs}
use Rattle.appointments.specs.work.Listed.{entry, appointment_of}
use Rattle.appointments.specs.Asking.{Stands, StandsAnswers}
use Rattle.appointments.proofs.laws.Tested.{of_entry}
use Rattle.appointments.proofs.laws.Asked.{day_passed, day_range, answer}
use Rattle.appointments.proofs.asking.stands.Goals as goal

pub returns-then-appointment-ne-APPOINTMENT : goal.returns-then-appointment-ne-APPOINTMENT
unfolding StandsAnswers Stands
returns-then-appointment-ne-APPOINTMENT c = inl (c.if-appointment-ne-APPOINTMENT.true, refl)

pub returns-in_err-day_refused : goal.returns-in_err-day_refused
unfolding StandsAnswers Stands
returns-in_err-day_refused c =
    let l = c.args.appointment.now in
    let day = c.args.day in
    let r = err_from_is_err_and c.from_residual.result c.from_residual.ensures.1 in
    rw (r.1, r.2)
    (inr (c.if-appointment-ne-APPOINTMENT.false, refuses (λ n. (n, 0)) (answer l day) (day_needs l day) (some _) c.in_err-day_refused.ensures))

pub entry_at-requires : goal.entry_at-requires
unfolding list_size
entry_at-requires c = omega (arith, c.if-appointment-ne-APPOINTMENT.false)

pub stands_on-requires : goal.stands_on-requires
unfolding entry appointment_at list_size
stands_on-requires c =
    rw c.entry_at.ensures
    ((day_range c.args.appointment.now c.args.day refl c.in_ok-day_refused.ensures).terms 0 (omega (arith, c.if-appointment-ne-APPOINTMENT.false)))

pub returns : goal.returns
unfolding StandsAnswers Stands
returns c =
    let l = c.args.appointment.now in
    let day = c.args.day in
    let e = ap appointment_of c.entry_at.ensures ∙ of_entry l 0 in
    inr (c.if-appointment-ne-APPOINTMENT.false, first_all (λ n. (n, 0)) (answer l day) _ (day_needs l day) (day_passed l day refl c.in_ok-day_refused.ensures) (rw (c.stands_on.ensures, e) refl))
