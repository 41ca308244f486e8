-- `questions::rights_by` meets its contract: the tests of the block and of the directory, and then the question by it.
use Rattle.rights.specs.Questions.{FullBy, AsksBy, reach_value}
use Rattle.index.proofs.laws.Refusing.{means_refused}
use Rattle.rights.proofs.laws.questions.AskingBy.{full_by_refused, asks_by}
use Rattle.rights.proofs.questions.rights_by.Goals as goal

pub returns-in_err-source : goal.returns-in_err-source
unfolding AsksBy
returns-in_err-source c =
    let a = c.args in
    means_refused reach_value (0, 0, 0) (λ o. FullBy a.block.now a.directory.now a.user a.object a.request a.profile (o.0, o.1.0, o.1.1, o.1.2)) c.from_residual.result _ c.from_residual.ensures.1
    (full_by_refused _ _ _ _ _ _ _ c.in_err-source.ensures.number)

pub returns : goal.returns
returns c = asks_by _ _ _ _ _ _ c.in_ok-source.ensures.number _ (rw c.in_ok-source.ensures.same at c.held.ensures)
