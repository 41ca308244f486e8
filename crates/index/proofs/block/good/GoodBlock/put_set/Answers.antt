-- In the loop the records from number i on are left.
use Prim.Native.Nat.{ℕ, ◌+◌, ◌-◌}
use mathlib.Core.Bool.{Bool, true}
use mathlib.Core.List.{List}
use native.Mathlib.Omega.{arith}
use lib.Dec.{ltb}
use borrow.Author.Tests.{lt-ltb}
use Rattle.index.specs.Text.{entry_at}
use Rattle.index.specs.work.Pieces.{next_text, rest}
use Rattle.index.specs.work.Written.{entries_from}
use Rattle.index.proofs.laws.block.Known.{is_good, is_sized}
use Rattle.index.proofs.laws.block.Records.{few_records}
use Rattle.index.proofs.laws.text.Writes.{going_next, going_last, rest_here, rest_end}
use Rattle.index.proofs.laws.text.TextBound.{next_bound}
use Rattle.index.proofs.block.good.GoodBlock.put_set.Goals as goal

pub put_next-at-requires : goal.put_next-at-requires
put_next-at-requires c = (omega (arith, c.requires.1, few_records (is_sized c.args.self) (is_good c.args.self)), c.table_bytes-bytes.ensures)

pub loop-i-preserved : goal.loop-i-preserved
loop-i-preserved c =
    let b : List ℕ = c.args.self.bytes.now in
    let first = c.args.first in
    let end = c.args.end in
    let i = c.loop-i.i in
    let begun : Bool = ltb first i in (
      omega (arith, next_bound b (is_good c.args.self).bytes begun i, c.put_next-at.ensures.ends),
      rw (lt-ltb first (i + 1) (omega arith))
          (going_next (next_text begun (entry_at b i)) (rest true (entries_from b (i + 1) (end - (i + 1)))) c.loop-i.invariant.1 (rest_here b begun i end (omega arith)) c.put_next-at.ensures),
    )

pub returns : goal.returns
returns c = going_last c.loop-i.invariant.1 (rest_end c.args.self.bytes.now (ltb c.args.first c.loop-i.i) c.loop-i.i c.args.end (omega arith))
