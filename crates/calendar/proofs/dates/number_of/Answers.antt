-- The number of a date's day.
use native.Mathlib.Omega.{arith}
use Rattle.calendar.specs.Dates.{day_number}
use Rattle.calendar.proofs.laws.Dates.{within, in_range, day_most}
use Rattle.calendar.proofs.dates.number_of.Goals as goal

pub overflow_sub-d-2 : goal.overflow_sub-d-2
overflow_sub-d-2 c = (within c.args.d c.requires).first_month

pub months_days-requires : goal.months_days-requires
months_days-requires c = omega (arith, (within c.args.d c.requires).last_month)

pub overflow_add-result : goal.overflow_add-result
overflow_add-result c = omega (arith, (within c.args.d c.requires).from, day_most _ (in_range c.args.d c.requires))

pub overflow_add-result-2 : goal.overflow_add-result-2
unfolding day_number
overflow_add-result-2 c = omega (arith, day_most _ (in_range c.args.d c.requires))

pub returns : goal.returns
unfolding day_number
returns c = omega arith
