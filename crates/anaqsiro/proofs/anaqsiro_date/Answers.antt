-- `anaqsiro::anaqsiro_date` meets its contract: what `date_of` answers, as a number and a value in parts.
use Rattle.calendar.specs.Calls.{DateOf}
use Rattle.anaqsiro.specs.Returned.{DateReturns}
use Rattle.anaqsiro.proofs.Fits.{date_fits, date_value_fits}
use Rattle.anaqsiro.proofs.Returning.{date_returned}
use Rattle.anaqsiro.proofs.anaqsiro_date.Goals as goal

pub returned-requires : goal.returned-requires
returned-requires c = date_value_fits _ (date_fits c.args.day c.date_of.result c.date_of.ensures)

pub returns : goal.returns
unfolding DateReturns
returns c =
    date_returned (DateOf c.args.day) c.date_of.result (date_fits c.args.day c.date_of.result c.date_of.ensures) c.date_of.ensures c.returned.ensures
