-- `groups::in_hers` meets its contract. The loop's invariant: no M record so far makes a group hers that is reached from the object.
use native.Mathlib.Omega.{arith}
use Rattle.rights.specs.Groups.{InHers}
use Rattle.plain.proofs.laws.Holding.{makes_hers, hers_where}
use Rattle.index.proofs.laws.block.Known.{good_known}
use Rattle.plain.proofs.groups.in_hers.Goals as goal

pub returns-then-reached : goal.returns-then-reached
unfolding InHers
returns-then-reached c =
    (_, makes_hers (good_known _ c.args.block.good) _ _ c.loop-i.i (omega arith, omega arith) c.if-makes_hers.ensures, rw c.id_of.ensures at c.if-reached.ensures)

pub returns : goal.returns
unfolding InHers
returns c = λ h.
    let w = hers_where (good_known _ c.args.block.good) _ _ h.0 h.1 in
    c.loop-i.invariant w.0 (omega arith) (omega arith) (w.3, rw w.2 h.2)
