-- In the loop the records from number i on are left.
use Prim.Native.Nat.{◌*◌, ◌-◌, ◌≤◌}
use lib.Dec.{ltb}
use Rattle.index.specs.Text.{text_of}
use Rattle.index.specs.work.Pieces.{rest}
use Rattle.index.specs.work.Written.{entries_from}
use Rattle.index.specs.work.Longest.{any_record}
use Rattle.index.proofs.laws.text.Writes.{Going}
use Rattle.index.proofs.block.good.GoodBlock.put_set.Given as goal

abbrev pub invariant-loop-i : goal.invariant-loop-i
invariant-loop-i l =
    (l.at ≤ any_record * l.i)
    × Going 0 (text_of (entries_from l.self.bytes.now l.first (l.end - l.first))) l.initial.out l.at (rest (ltb l.first l.i) (entries_from l.self.bytes.now l.i (l.end - l.i))) l.out
