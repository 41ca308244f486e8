-- `anaqsiro::anaqsiro_day` meets its contract: what `day_of` answers, as a number and a value.
use Rattle.calendar.specs.Calls.{DayOf, DayAnswers}
use Rattle.anaqsiro.specs.Returned.{DayReturns}
use Rattle.anaqsiro.proofs.Fits.{day_fits}
use Rattle.anaqsiro.proofs.Returning.{means_returned}
use Rattle.anaqsiro.proofs.anaqsiro_day.Goals as goal

pub returned-requires : goal.returned-requires
returned-requires c = day_fits _ _ _ _ c.day_of.ensures

pub returns : goal.returns
unfolding DayReturns DayAnswers
returns c = let a = c.args in means_returned (λ n. n) (DayOf a.year a.month a.day) c.day_of.result c.day_of.ensures c.returned.ensures
