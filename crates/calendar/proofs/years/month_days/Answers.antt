-- The days of a month.
use mathlib.Core.Path.{sym}
use native.Mathlib.Omega.{arith}
use Rattle.calendar.proofs.laws.Years.{no_month, no_zeroth, february, other_month, leap_one}
use Rattle.calendar.proofs.years.month_days.Goals as goal
use Rattle.calendar.proofs.years.month_days.Goals.{in-1-1, in_default+else-month-lt1+then-month-lt13}

pub overflow_add-result : goal.overflow_add-result
overflow_add-result c = omega (arith, leap_one c.args.year, c.leap_day.ensures)

pub returns-in-2 : goal.returns-in-2
returns-in-2 c = omega (arith, february c.args.year c.args.month c.in-2.is, c.leap_day.ensures)

pub returns-in-1-to-12 : goal.returns-in-1-to-12
returns-in-1-to-12 c = elim c.in-1-to-12-1.branch [ in-1-1 w ↦ omega (arith, other_month c.args.year c.args.month (omega arith) (omega arith) (λ e. omega arith)) | in_default+else-month-lt1+then-month-lt13 w ↦ omega (arith, other_month c.args.year c.args.month (omega arith) (omega arith) (λ e. omega arith)) ]

pub returns-in_default : goal.returns-in_default
returns-in_default c = sym (no_zeroth c.args.year c.args.month (omega arith))

pub returns-in_default-2 : goal.returns-in_default-2
returns-in_default-2 c = sym (no_month c.args.year c.args.month (omega arith))
