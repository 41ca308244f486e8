-- `standing::put_set` meets its contract: nothing for an empty text, else the line.
use Rattle.std.proofs.Common.{length, ap, arith}
use Rattle.index.proofs.laws.text.Writes.{puts_none}
use Rattle.standing.proofs.Lines.{set_none, set_some}
use Rattle.standing.proofs.put_set.Goals as goal

pub returns-then-long-eq0 : goal.returns-then-long-eq0
returns-then-long-eq0 c =
    let a = c.args in
    rw (set_none a.block.now a.kind a.key c.put_text-long.ensures c.if-long-eq0.true) at (puts_none a.at a.out.now)

pub put_line-requires : goal.put_line-requires
put_line-requires c =
    omega (arith, ap length (set_some _ _ c.args.key c.put_text-long.ensures c.if-long-eq0.false), c.requires.key_in_bounds)

pub returns : goal.returns
returns c = rw (set_some _ _ c.args.key c.put_text-long.ensures c.if-long-eq0.false) at c.put_line.ensures
