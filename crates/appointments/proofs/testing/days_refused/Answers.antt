-- The tests of a list and two days.
use Rattle.std.proofs.Common.{[], ◌∷◌, refl}
use Rattle.index.specs.Numbers.{Answers}
use Rattle.index.proofs.laws.Firsts.{answers_first, answers_next}
use Rattle.index.proofs.laws.Refusing.{some, passed_on}
use Rattle.calendar.specs.Dates.{IsDay}
use Rattle.appointments.specs.Appointment.{day_needs}
use Rattle.appointments.proofs.laws.Asked.{day_passed}
use Rattle.appointments.proofs.laws.Moving.{days_needs}
use Rattle.appointments.proofs.testing.days_refused.Goals as goal

pub returns-in_err-day_refused : goal.returns-in_err-day_refused
returns-in_err-day_refused c =
    let a = c.args in
    passed_on (Answers (days_needs a.list.now a.old a.new)) c.from_residual.result _ c.from_residual.ensures.1
    (answers_first (day_needs a.list.now a.old) ((12, IsDay a.new) ∷ []) (some _) c.in_err-day_refused.ensures)

pub returns : goal.returns
returns c =
    let a = c.args in
    answers_next (day_needs a.list.now a.old) ((12, IsDay a.new) ∷ []) _ (day_passed a.list.now a.old refl c.in_ok-day_refused.ensures)
    c.range_refused.ensures
