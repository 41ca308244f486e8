-- The number of a date's day, or 12.
use mathlib.Core.Path.{refl}
use mathlib.Core.Logic.{inl, inr}
use Rattle.calendar.specs.Calls.{DayOf, DayAnswers}
use Rattle.calendar.proofs.dates.day_of.Goals as goal

pub returns-then-not-is_date : goal.returns-then-not-is_date
unfolding DayOf DayAnswers
returns-then-not-is_date c = inl (c.if-not-is_date.ensures, refl)

pub returns : goal.returns
unfolding DayOf DayAnswers
returns c = inr (c.if-not-is_date.ensures, (refl, c.number_of.ensures))
