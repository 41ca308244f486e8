-- In the loop the records before number i stand below the next key.
use Prim.Native.Nat.{◌+◌, ◌*◌}
use Rattle.index.specs.Block.{name_count, from}
use Rattle.index.proofs.laws.block.Finding.{Between}
use Rattle.index.proofs.block.good.GoodBlock.end_of.Given as goal

abbrev pub invariant-loop-i : goal.invariant-loop-i
invariant-loop-i l = Between l.self.bytes.now (name_count * (l.key + 1)) (from l.self.bytes.now l.fn.kind) l.last l.i l.last
