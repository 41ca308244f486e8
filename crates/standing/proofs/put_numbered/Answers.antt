-- `standing::put_numbered` meets its contract: the bytes, and then the number.
use Rattle.index.proofs.laws.text.Writes.{puts_then}
use Rattle.standing.proofs.put_numbered.Goals as goal

pub returns : goal.returns
returns c = puts_then _ _ c.put_bytes-end.ensures c.put_decimal.ensures
