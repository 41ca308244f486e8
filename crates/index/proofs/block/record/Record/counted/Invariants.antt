-- The letters that a record counts, from one on: one after the other is put in, or left out.
use Prim.Native.Nat.{◌+◌, ◌<◌}
use Rattle.index.specs.Block.{count_at}
use Rattle.index.proofs.laws.block.Joining.{Joined}
use Rattle.index.proofs.block.record.Record.counted.Given as goal

abbrev pub invariant-loop-k : goal.invariant-loop-k
invariant-loop-k l = Joined (λ j. 0 < count_at l.self.block.now l.self.i (j + l.first)) l.k l.mask
