-- `questions::may` meets its contract: the tests of the block, and then the question without a directory.
use Rattle.index.specs.Numbers.{yes_no}
use Rattle.rights.specs.Questions.{Short, AsksAll}
use Rattle.index.proofs.laws.Refusing.{means_refused}
use Rattle.rights.proofs.laws.questions.AskingBy.{short_refused}
use Rattle.rights.proofs.questions.may.Goals as goal

pub returns-in_err-source : goal.returns-in_err-source
unfolding AsksAll
returns-in_err-source c =
    let a = c.args in
    means_refused yes_no 0 (Short a.block.now a.user a.object a.request a.profile) c.from_residual.result _ c.from_residual.ensures.1
    (short_refused _ _ _ _ _ _ c.in_err-source.ensures.number)
