-- The date of a day, or 12.
use mathlib.Core.Path.{refl}
use mathlib.Core.Logic.{inl, inr}
use native.Mathlib.Omega.{arith}
use Rattle.calendar.specs.Dates.{years_days}
use Rattle.calendar.specs.Calls.{DateOf, DateAnswers}
use Rattle.calendar.proofs.laws.Dates.{is_day, day_most, made}
use Rattle.calendar.proofs.dates.date_of.Goals as goal

pub returns-then-day-gt-LAST_DAY : goal.returns-then-day-gt-LAST_DAY
unfolding DateOf DateAnswers
returns-then-day-gt-LAST_DAY c = inl (λ i. omega (arith, day_most c.args.day i), refl)

pub months_over-months-requires : goal.months_over-months-requires
unfolding years_days
months_over-months-requires c = omega arith

pub returns : goal.returns
unfolding DateOf DateAnswers
returns c =
    let y = c.years_over-years.result in
    let m = c.months_over-months.result in
    inr (
      is_day c.args.day (omega arith),
      (
        refl,
        rw (c.years_days.ensures, c.months_days.ensures)
            (made y m c.args.day c.years_over-years.ensures.0 (omega arith) (omega arith)),
      ),
    )
