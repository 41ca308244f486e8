-- `near::leads_to` meets its contract: the walk, and the mark of the name.
use Rattle.rights.specs.work.Marks.{Side}
use Rattle.rights.proofs.laws.held.Members.{above_zero}
use Rattle.rights.proofs.near.leads_to.Goals as goal

pub side-requires-clause-start : goal.side-requires-clause-start
side-requires-clause-start c =
    (c.requires.0, (c.new-room.ensures c.args.source.now.block.bytes.now, c.requires.1.1))

pub returns : goal.returns
unfolding Side
returns c = above_zero (c.side.ensures.side c.args.name)
