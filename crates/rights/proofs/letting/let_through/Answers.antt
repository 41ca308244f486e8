-- `letting::let_through` meets its contract: the tests, the filters, and whether the object is open.
use Rattle.std.proofs.Common.{ℕ, arith}
use Rattle.rights.specs.Through.{LetsThrough, ThroughAnswers}
use Rattle.index.proofs.laws.Refusing.{means_refused}
use Rattle.rights.proofs.laws.questions.Letting.{names_passed, refused, lets}
use Rattle.rights.proofs.letting.let_through.Goals as goal

pub returns-in_err-source : goal.returns-in_err-source
unfolding ThroughAnswers
returns-in_err-source c =
    let a = c.args in
    means_refused (λ (n : ℕ). n) 0 (LetsThrough a.block.now a.user a.object) c.from_residual.result _ c.from_residual.ensures.1
    (refused _ _ _ _ c.in_err-source.ensures.number)

pub filter_of-passed-requires : goal.filter_of-passed-requires
filter_of-passed-requires c = (names_passed _ _ _ c.in_ok-source.ensures.number).object

pub opened-requires : goal.opened-requires
opened-requires c =
    let named = names_passed _ _ _ c.in_ok-source.ensures.number in
    (named.user, (named.object, (c.filter_of-passed.ensures.0, omega arith)))

pub returns : goal.returns
unfolding ThroughAnswers
returns c =
    let same = c.in_ok-source.ensures.same in
    lets _ _ _ (names_passed _ _ _ c.in_ok-source.ensures.number) (rw same at c.filter_of-passed.ensures) (rw same at c.opened.ensures)
