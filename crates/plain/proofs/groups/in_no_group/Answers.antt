-- `groups::in_no_group` meets its contract. The loop's invariant: no M record so far is a membership of the object.
use native.Mathlib.Omega.{arith}
use Rattle.rights.specs.Groups.{InNoGroup}
use Rattle.plain.proofs.laws.Holding.{named_where}
use Rattle.index.proofs.laws.block.Known.{good_known}
use Rattle.plain.proofs.groups.in_no_group.Goals as goal

pub returns-then-leads : goal.returns-then-leads
unfolding InNoGroup
returns-then-leads c = λ alone. alone _ c.if-leads.ensures.1

pub returns : goal.returns
unfolding InNoGroup
returns c = λ y m.
    let w = named_where (good_known _ c.args.block.good) _ y m in
    c.loop-i.invariant w.0 (omega arith) (omega arith) (w.2.1, w.2.2)
