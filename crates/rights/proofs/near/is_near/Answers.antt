-- `near::is_near` meets its contract: the tests, and whether the walk comes to the name.
use Rattle.std.proofs.Common.{arith}
use Rattle.index.specs.Numbers.{yes_no}
use Rattle.rights.specs.Near.{IsNear, AsksNear}
use Rattle.index.proofs.laws.Refusing.{means_refused}
use Rattle.rights.proofs.laws.questions.Letting.{names_passed}
use Rattle.rights.proofs.laws.questions.Nearing.{names_refused, limit_refused, says}
use Rattle.rights.proofs.near.is_near.Goals as goal

pub returns-in_err-source : goal.returns-in_err-source
unfolding AsksNear
returns-in_err-source c =
    let a = c.args in
    means_refused yes_no 0 (IsNear a.block.now a.start a.name a.limit) c.from_residual.result _ c.from_residual.ensures.1
    (names_refused _ _ _ _ _ c.in_err-source.ensures.number)

pub returns-then-limit-gt-LAST_LIMIT : goal.returns-then-limit-gt-LAST_LIMIT
unfolding AsksNear
returns-then-limit-gt-LAST_LIMIT c =
    limit_refused _ _ _ _ (names_passed _ _ _ c.in_ok-source.ensures.number) (λ l. omega (arith, l, c.if-limit-gt-LAST_LIMIT.true))

pub leads_to-requires : goal.leads_to-requires
leads_to-requires c =
    let named = names_passed _ _ _ c.in_ok-source.ensures.number in
    (named.user, (named.object, omega (arith, c.if-limit-gt-LAST_LIMIT.false)))

pub returns : goal.returns
returns c =
    says _ _ _ _ (names_passed _ _ _ c.in_ok-source.ensures.number) (omega (arith, c.if-limit-gt-LAST_LIMIT.false)) c.leads_to.result
    (rw c.in_ok-source.ensures.same at c.leads_to.ensures)
