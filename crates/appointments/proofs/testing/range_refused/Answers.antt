-- The test of a day.
use Rattle.std.proofs.Common.{refl, inl, inr, arith}
use Rattle.calendar.proofs.laws.Dates.{is_day, day_most}
use Rattle.appointments.proofs.testing.range_refused.Goals as goal

pub returns-then-day-gt-LAST_DAY : goal.returns-then-day-gt-LAST_DAY
returns-then-day-gt-LAST_DAY c = inl ((λ p. omega (arith, day_most c.args.day p, c.if-day-gt-LAST_DAY.true)), refl)

pub returns : goal.returns
returns c = inr (is_day c.args.day (omega (arith, c.if-day-gt-LAST_DAY.false)), refl)
