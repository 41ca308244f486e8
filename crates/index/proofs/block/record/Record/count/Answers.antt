-- The count of a letter is a number of the record.
use Rattle.index.proofs.laws.block.Bytes.{count_number}
use Rattle.index.proofs.block.record.Record.count.Goals as goal

pub returns : goal.returns
returns c = rw (count_number _ _ _ c.requires) c.number_at.ensures
