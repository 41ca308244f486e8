-- `questions::rights_of` meets its contract: the tests of the block, and then the question without a directory.
use Rattle.rights.specs.Questions.{Full, Asks, reach_value}
use Rattle.index.proofs.laws.Refusing.{means_refused}
use Rattle.rights.proofs.laws.questions.AskingBy.{full_refused}
use Rattle.rights.proofs.questions.rights_of.Goals as goal

pub returns-in_err-source : goal.returns-in_err-source
unfolding Asks
returns-in_err-source c =
    let a = c.args in
    means_refused reach_value (0, 0, 0) (λ o. Full a.block.now a.user a.object a.request a.profile (o.0, o.1.0, o.1.1, o.1.2)) c.from_residual.result _ c.from_residual.ensures.1
    (full_refused _ _ _ _ _ _ c.in_err-source.ensures.number)
