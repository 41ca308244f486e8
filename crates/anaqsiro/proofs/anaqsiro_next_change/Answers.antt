-- `anaqsiro::anaqsiro_next_change` meets its contract: what `next_change` answers, as a number and a value.
use Rattle.anaqsiro.specs.Returned.{NextReturns}
use Rattle.anaqsiro.proofs.Fits.{next_fits}
use Rattle.anaqsiro.proofs.Returning.{next_returned}
use Rattle.anaqsiro.proofs.anaqsiro_next_change.Goals as goal

pub returned-requires : goal.returned-requires
returned-requires c = next_fits c.args.list.now c.args.day c.next_change.result c.next_change.ensures

pub returns : goal.returns
unfolding NextReturns
returns c = next_returned c.args.list.now c.args.day c.next_change.result c.next_change.ensures c.returned.ensures
