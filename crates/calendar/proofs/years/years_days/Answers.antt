-- The days of the first years, by the count of leap years.
use native.Mathlib.Omega.{arith}
use Rattle.calendar.proofs.laws.Years.{years, leaps}
use Rattle.calendar.proofs.years.years_days.Goals as goal

pub returns : goal.returns
unfolding leaps
returns c = omega (arith, years c.args.n c.requires)
