-- A header is the sizes of the parts, and their offsets.
use Rattle.index.proofs.laws.block.Sizes.{headed}
use Rattle.index.proofs.block.moves.put_header.Goals as goal

pub returns : goal.returns
returns c = headed c.put_four.ensures c.put_four-2.ensures
