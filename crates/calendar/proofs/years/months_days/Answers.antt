-- The days of a year's first months.
use borrow.Author.Tests.{lt-ltb, le-ltb}
use native.Mathlib.Omega.{arith}
use Rattle.calendar.proofs.laws.Years.{first_months, leap_one}
use Rattle.calendar.proofs.years.months_days.Goals as goal

pub returns-then-n-lt2 : goal.returns-then-n-lt2
returns-then-n-lt2 c =
    let f = simp (lt-ltb _ _ c.if-n-lt2.true) at (first_months c.args.year c.args.n c.requires).told in
    omega (arith, f)

pub returns-else-n-lt2 : goal.returns-else-n-lt2
returns-else-n-lt2 c =
    let f = simp (le-ltb _ _ c.if-n-lt2.false) at (first_months c.args.year c.args.n c.requires).told in
    omega (arith, f, c.leap_day.ensures)

pub overflow_add-result : goal.overflow_add-result
overflow_add-result c = omega (arith, leap_one c.args.year, c.leap_day.ensures)
