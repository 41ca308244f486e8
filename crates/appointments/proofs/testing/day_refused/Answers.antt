-- The tests of a list and a day.
use Rattle.std.proofs.Common.{[], ◌∷◌, refl, arith}
use Rattle.index.specs.Numbers.{Answers}
use Rattle.index.proofs.laws.Firsts.{passed, answers_first, answers_next}
use Rattle.index.proofs.laws.Refusing.{some, passed_on}
use Rattle.calendar.specs.Dates.{IsDay}
use Rattle.appointments.specs.Appointment.{appointment_needs, day_needs}
use Rattle.appointments.proofs.testing.day_refused.Goals as goal

pub returns-in_err-list_refused : goal.returns-in_err-list_refused
unfolding day_needs
returns-in_err-list_refused c =
    let a = c.args in
    passed_on (Answers (day_needs a.list.now a.day)) c.from_residual.result _ c.from_residual.ensures.1
    (answers_first (appointment_needs a.list.now) ((12, IsDay a.day) ∷ []) (some _) c.in_err-list_refused.ensures)

pub returns : goal.returns
unfolding day_needs appointment_needs
returns c =
    let own = appointment_needs c.args.list.now in
    answers_next own ((12, IsDay c.args.day) ∷ []) _ (passed own (omega arith) refl c.in_ok-list_refused.ensures) c.range_refused.ensures
