-- `questions::may_by` meets its contract: the tests of the block and of the directory, and then the question by it.
use Rattle.index.specs.Numbers.{yes_no}
use Rattle.rights.specs.Questions.{ShortBy, AsksAllBy}
use Rattle.index.proofs.laws.Refusing.{means_refused}
use Rattle.rights.proofs.laws.questions.AskingBy.{short_by_refused, asks_all_by}
use Rattle.rights.proofs.questions.may_by.Goals as goal

pub returns-in_err-source : goal.returns-in_err-source
unfolding AsksAllBy
returns-in_err-source c =
    let a = c.args in
    means_refused yes_no 0 (ShortBy a.block.now a.directory.now a.user a.object a.request a.profile) c.from_residual.result _
    c.from_residual.ensures.1 (short_by_refused _ _ _ _ _ _ _ c.in_err-source.ensures.number)

pub returns : goal.returns
returns c = asks_all_by _ _ _ _ _ _ c.in_ok-source.ensures.number _ (rw c.in_ok-source.ensures.same at c.all_held.ensures)
