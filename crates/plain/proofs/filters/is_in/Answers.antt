-- `filters::is_in` meets its contract. The loop's invariant: no M record so far names the group for the object.
use native.Mathlib.Omega.{arith}
use Rattle.plain.proofs.laws.Holding.{named_where}
use Rattle.index.proofs.laws.block.Known.{good_known}
use Rattle.plain.proofs.filters.is_in.Goals as goal

pub returns : goal.returns
returns c = λ m.
    let w = named_where (good_known _ c.args.block.good) _ _ m in
    c.loop-i.invariant w.0 (omega arith) (omega arith) w.2
