-- `finding::find_slip` meets its contract: the tests, what stops the right, and the search.
use Rattle.std.proofs.lemmas.Grind.{merely}
use Rattle.rights.specs.Held.{Holds}
use Rattle.rights.proofs.laws.questions.Letting.{through_named}
use Rattle.slips.proofs.laws.Rights.{for_right, one_of_right}
use Rattle.slips.proofs.laws.Checking.{stopped, let_by}
use Rattle.slips.proofs.laws.Seeking.{find_unnamed, find_unright, find_unplaced, find_accepted, find_none}
use Rattle.slips.proofs.finding.find_slip.Goals as goal

pub returns-in_err-mask : goal.returns-in_err-mask
returns-in_err-mask c = find_unnamed _ _ _ _ _ _ c.from_residual.result _ c.from_residual.ensures.1 c.in_err-mask.ensures

pub returns-in_default : goal.returns-in_default
returns-in_default c = find_unright _ _ _ _ _ _ (through_named _ _ _ c.in_ok-mask.ensures).0 c.in_default.ensures

pub returns-in_err-places_tested : goal.returns-in_err-places_tested
returns-in_err-places_tested c =
    let named = (through_named _ _ _ c.in_ok-mask.ensures).0 in
    let out = c.from_residual-in_err-places_tested in
    find_unplaced _ _ _ _ _ _ named (one_of_right c.in-Some.ensures) out.result _ out.ensures.1 c.in_err-places_tested.ensures

pub returns-then-mask-right-eq0 : goal.returns-then-mask-right-eq0
returns-then-mask-right-eq0 c =
    let through = through_named _ _ _ c.in_ok-mask.ensures in
    let right = c.in-Some.ensures in
    find_none _ _ _ _ _ _ through.0 (one_of_right right) c.in_ok-places_tested.ensures
    (λ p. let h = (for_right (Holds _ _ _ _) right).0 p in stopped _ _ _ right through.1 c.if-mask-right-eq0.true h.filters h.exclusive)

pub invariant_of-block : goal.invariant_of-block
invariant_of-block c =
    let named = (through_named _ _ _ c.in_ok-mask.ensures).0 in
    record { sized = merely named.sized; good = merely named.good }

pub sought-requires-clause-passes : goal.sought-requires-clause-passes
sought-requires-clause-passes c =
    let through = through_named _ _ _ c.in_ok-mask.ensures in
    (through.0.user, (through.0.object, let_by _ _ _ c.in-Some.ensures through.1 c.if-mask-right-eq0.false))

pub returns : goal.returns
returns c =
    let named = (through_named _ _ _ c.in_ok-mask.ensures).0 in
    let right = c.in-Some.ensures in
    let e = right.is in
    find_accepted _ _ _ _ _ _ named (one_of_right right) c.in_ok-places_tested.ensures _ _ c.sought.result (rw (← e) at c.sought.ensures)
