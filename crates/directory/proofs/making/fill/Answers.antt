-- `making::fill` meets its contract: the three parts.
use Rattle.directory.proofs.Writing.{own_filled}
use Rattle.directory.proofs.making.fill.Goals as goal

pub returns : goal.returns
returns c = own_filled c.requires.1 c.fill_part.ensures c.fill_part-2.ensures c.fill_part-3.ensures
