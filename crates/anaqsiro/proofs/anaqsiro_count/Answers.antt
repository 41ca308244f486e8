-- `anaqsiro::anaqsiro_count` meets its contract: what the door says of the count; a record has no letter past the last.
use mathlib.Core.Path.{sym}
use Rattle.index.proofs.laws.block.Bytes.{count_out}
use Rattle.anaqsiro.specs.Returned.{CountReturns}
use Rattle.anaqsiro.proofs.Numbered.{none_returned, some_returned}
use Rattle.anaqsiro.proofs.anaqsiro_count.Goals as goal

pub returns-then-number-gt-LAST_RECORD : goal.returns-then-number-gt-LAST_RECORD
unfolding CountReturns
returns-then-number-gt-LAST_RECORD c = none_returned _ _ c.if-number-gt-LAST_RECORD.true c.packed.ensures

pub returns-then-letter : goal.returns-then-letter
unfolding CountReturns
returns-then-letter c =
    some_returned _ _ c.if-number-gt-LAST_RECORD.false (sym (count_out _ _ _ c.if-letter.true)) c.packed-then-letter.ensures

pub returns : goal.returns
unfolding CountReturns
returns c = some_returned _ _ c.if-number-gt-LAST_RECORD.false c.count_of.ensures c.packed-2.ensures
