-- Letter by letter, the counts are joined, and bit 16 tells of all.
use Prim.Native.Nat.{ℕ, ◌+◌, ◌≤◌, ◌<◌}
use mathlib.Core.Logic.{◌↔◌}
use Rattle.index.specs.Letters.{In}
use Rattle.index.specs.Block.{greatest_count, count_at}
use Rattle.index.specs.work.Edits.{bit}
use Rattle.index.proofs.block.record.Record.allows.Given as goal

abbrev pub invariant-loop-k : goal.invariant-loop-k
invariant-loop-k l =
    (In 16 l.all ↔ ((n : ℕ) → n < l.k → (bit l.less n ≤ count_at l.self.block.now l.self.i n + bit l.more n) × (count_at l.self.block.now l.self.i n + bit l.more n ≤ greatest_count + bit l.less n)))
