-- A half is read out of its number.
use Rattle.index.specs.Message.{packed_kind, packed_half}
use Rattle.index.proofs.messages.run.half_in.Goals as goal

pub returns : goal.returns
unfolding packed_kind packed_half
returns c = rw (c.kind_of.ensures, c.kind_number_in.ensures)
