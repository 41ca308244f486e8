-- `checking::check_slip` meets its contract: the tests, the filters and exclusive groups, and what the right rests on.
use Rattle.std.proofs.Common.{false}
use Rattle.std.proofs.lemmas.Grind.{merely}
use Rattle.index.proofs.laws.Answer.{says_same}
use Rattle.rights.proofs.laws.questions.Letting.{through_named}
use Rattle.slips.proofs.laws.Checking.{stopped, let_by, check_unnamed, refused_names, refused_right, refused_chains, check_says}
use Rattle.slips.proofs.checking.check_slip.Goals as goal

pub returns-in_err-mask : goal.returns-in_err-mask
returns-in_err-mask c = check_unnamed _ _ _ _ _ _ c.from_residual.result _ c.from_residual.ensures.1 c.in_err-mask.ensures

pub returns-in_err-names_tested : goal.returns-in_err-names_tested
returns-in_err-names_tested c =
    let named = (through_named _ _ _ c.in_ok-mask.ensures).0 in
    let out = c.from_residual-in_err-names_tested in
    refused_names _ _ _ _ _ _ named out.result _ out.ensures.1 c.in_err-names_tested.ensures

pub returns-in_default : goal.returns-in_default
returns-in_default c =
    let named = (through_named _ _ _ c.in_ok-mask.ensures).0 in
    refused_right _ _ _ _ _ _ named c.in_ok-names_tested.ensures c.in_default.ensures

pub returns-in_err-chains_tested : goal.returns-in_err-chains_tested
returns-in_err-chains_tested c =
    let named = (through_named _ _ _ c.in_ok-mask.ensures).0 in
    let out = c.from_residual-in_err-chains_tested in
    refused_chains _ _ _ _ _ _ named c.in_ok-names_tested.ensures c.in-Some.ensures out.result _ out.ensures.1 c.in_err-chains_tested.ensures

pub returns-then-mask-right-eq0 : goal.returns-then-mask-right-eq0
returns-then-mask-right-eq0 c =
    let through = through_named _ _ _ c.in_ok-mask.ensures in
    let right = c.in-Some.ensures in
    check_says _ _ _ _ _ _ through.0 c.in_ok-names_tested.ensures right c.in_ok-chains_tested.ensures false
    (λ s. stopped _ _ _ right through.1 c.if-mask-right-eq0.true s.filters s.exclusive)

pub invariant_of-block : goal.invariant_of-block
invariant_of-block c =
    let named = (through_named _ _ _ c.in_ok-mask.ensures).0 in
    record { sized = merely named.sized; good = merely named.good }

pub returns : goal.returns
returns c =
    let through = through_named _ _ _ c.in_ok-mask.ensures in
    let right = c.in-Some.ensures in
    let lets = let_by _ _ _ right through.1 c.if-mask-right-eq0.false in
    check_says _ _ _ _ _ _ through.0 c.in_ok-names_tested.ensures right c.in_ok-chains_tested.ensures c.rests_on.result
    (says_same c.rests_on.result
    (λ r. record { user_names = r.0; object_names = r.1.0; grant = r.1.1; filters = lets.0; exclusive = lets.1 })
    (λ s. (s.user_names, (s.object_names, s.grant))) c.rests_on.ensures)
