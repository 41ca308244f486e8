-- `index::text::sets::has_room` meets its contract.
use Rattle.index.specs.Block.{room}
use Rattle.index.proofs.text.sets.has_room.Goals as goal

pub returns : goal.returns
unfolding room
returns c = rw (c.end-all.ensures.0)
