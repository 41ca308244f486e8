-- `anaqsiro::anaqsiro_record` meets its contract: what the doors say of the record's key and id.
use Prim.Native.Nat.{◌+◌, ◌*◌}
use mathlib.Core.Path.{ap₂}
use Rattle.anaqsiro.specs.Returned.{RecordReturns}
use Rattle.anaqsiro.proofs.Numbered.{none_returned, some_returned}
use Rattle.anaqsiro.proofs.anaqsiro_record.Goals as goal

pub returns-then-number-gt-LAST_RECORD : goal.returns-then-number-gt-LAST_RECORD
unfolding RecordReturns
returns-then-number-gt-LAST_RECORD c = none_returned _ _ c.if-number-gt-LAST_RECORD.true c.packed.ensures

pub returns : goal.returns
unfolding RecordReturns
returns c =
    some_returned _ _ c.if-number-gt-LAST_RECORD.false (ap₂ (λ x y. x + 65536 * y) c.key_of.ensures c.id_of.ensures)
    c.packed-2.ensures
