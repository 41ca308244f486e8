-- The leap day of a year.
use Rattle.std.proofs.Common.{arith}
use Rattle.std.proofs.lemmas.Grind.{common_steps}
use Rattle.calendar.specs.Dates.{leap_day}
use Rattle.calendar.proofs.years.leap_day.Goals as goal

pub returns-then-year-eq0-2 : goal.returns-then-year-eq0-2
unfolding leap_day
returns-then-year-eq0-2 c = grind (arith, common_steps)

pub returns-else-year-eq0 : goal.returns-else-year-eq0
unfolding leap_day
returns-else-year-eq0 c = grind (arith, common_steps)
