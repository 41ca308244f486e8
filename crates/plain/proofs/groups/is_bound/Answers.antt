-- `groups::is_bound` meets its contract. The loop's invariant: no M record so far makes a group hers.
use native.Mathlib.Omega.{arith}
use Rattle.rights.specs.Groups.{Bound}
use Rattle.plain.proofs.laws.Holding.{makes_hers, hers_where}
use Rattle.index.proofs.laws.block.Known.{good_known}
use Rattle.plain.proofs.groups.is_bound.Goals as goal

pub returns-then-makes_hers : goal.returns-then-makes_hers
unfolding Bound
returns-then-makes_hers c = (_, makes_hers (good_known _ c.args.block.good) _ _ c.loop-i.i (omega arith, omega arith) c.if-makes_hers.ensures)

pub returns : goal.returns
unfolding Bound
returns c = λ h.
    let w = hers_where (good_known _ c.args.block.good) _ _ h.0 h.1 in
    c.loop-i.invariant w.0 (omega arith) (omega arith) w.3
