-- `standing::put_sets` meets its contract: in the loop the sets from the key on are left.
use Rattle.std.proofs.Common.{arith}
use Rattle.index.specs.Block.{name_count}
use Rattle.index.proofs.laws.text.Writes.{going_next, going_last}
use Rattle.standing.proofs.Lines.{lines_next, lines_long, lines_end}
use Rattle.standing.proofs.put_sets.Goals as goal

pub put_set-end-requires-clause-key_in_bounds : goal.put_set-end-requires-clause-key_in_bounds
put_set-end-requires-clause-key_in_bounds c =
    omega (arith, lines_long c.args.block.now c.args.kind c.loop-key.key name_count c.loop-key-test.true)

pub loop-key-preserved : goal.loop-key-preserved
loop-key-preserved c =
    let l = c.loop-key in
    let b = c.args.block.now in
    let k = c.args.kind in (
      omega (arith, lines_long b k l.key name_count c.loop-key-test.true, c.put_set-end.ensures.ends, c.put_set-end.auto.out),
      going_next _ _ l.invariant.1 (lines_next b k l.key name_count c.loop-key-test.true) c.put_set-end.ensures,
    )

pub returns : goal.returns
returns c = going_last c.loop-key.invariant.1 (lines_end _ _ c.loop-key.key name_count c.loop-key-test.false)
