-- The offset of a list is a number of the header.
use Rattle.index.specs.Wide.{list_offset}
use Rattle.index.proofs.messages.names.WideHeader.offset_at.Goals as goal

pub returns : goal.returns
unfolding list_offset
returns c = (c.number_at.ensures.is, c.number_at.ensures.small)
