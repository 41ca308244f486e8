-- The next day on which another set of a list stands, or a refusal.
use Rattle.std.proofs.Common.{refl}
use Rattle.std.proofs.lemmas.Result.{err_from_is_err_and}
use Rattle.index.proofs.laws.Firsts.{refuses}
use Rattle.index.proofs.laws.Refusing.{some}
use Rattle.appointments.specs.Appointment.{day_needs}
use Rattle.appointments.specs.Asking.{NextChange, NextAnswers}
use Rattle.appointments.proofs.laws.Asked.{day_passed, day_range, next_day, next_found}
use Rattle.appointments.proofs.asking.next_change.Goals as goal

pub returns-in_err-day_refused : goal.returns-in_err-day_refused
unfolding NextAnswers NextChange
returns-in_err-day_refused c =
    let l = c.args.list.now in
    let day = c.args.day in
    let r = err_from_is_err_and c.from_residual.result c.from_residual.ensures.1 in
    rw (r.1, r.2) (refuses (λ n. (n, 0)) (next_day l day) (day_needs l day) (some _) c.in_err-day_refused.ensures)

pub next_in-requires : goal.next_in-requires
next_in-requires c = day_range c.args.list.now c.args.day refl c.in_ok-day_refused.ensures

pub returns : goal.returns
returns c = next_found c.args.list.now c.args.day (day_passed c.args.list.now c.args.day refl c.in_ok-day_refused.ensures) _ c.next_in.ensures
