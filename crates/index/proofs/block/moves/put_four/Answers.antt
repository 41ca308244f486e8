-- Four numbers are written, one after the other.
use Rattle.index.proofs.laws.block.Sizes.{four}
use Rattle.index.proofs.block.moves.put_four.Goals as goal

pub returns : goal.returns
returns c =
    four
    c.put_number.ensures
    c.put_number-2.ensures
    c.put_number-3.ensures
    c.put_number-4.ensures
