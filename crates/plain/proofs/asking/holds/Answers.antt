-- `asking::holds` meets its contract: the filters, the grant, and whether the object is open.
use Rattle.index.proofs.laws.Answer.{yes_is, no_is, says_same}
use Rattle.plain.proofs.laws.Holding.{holds, held_granted}
use Rattle.index.proofs.laws.block.Known.{good_known}
use Rattle.plain.proofs.asking.holds.Goals as goal

pub returns-then-not-granted : goal.returns-then-not-granted
returns-then-not-granted c = λ h. no_is c.if-not-granted.true (held_granted (good_known _ c.args.block.good) _ _ _ _ h) c.granted.ensures

pub returns : goal.returns
returns c =
    let passed = yes_is c.if-not-passes.false c.passes.ensures in
    let granted = yes_is c.if-not-granted.false c.granted.ensures in
    says_same c.is_open.result (λ opened. holds (good_known _ c.args.block.good) _ _ _ _ c.args.right.small passed granted opened) (λ h. h.exclusive) c.is_open.ensures
