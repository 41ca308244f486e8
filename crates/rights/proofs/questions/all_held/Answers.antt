-- `questions::all_held` meets its contract: the refusal, or whether every requested right is held.
use Rattle.std.proofs.Common.{refl, arith}
use Rattle.index.specs.Numbers.{yes_no}
use Rattle.rights.specs.Profiles.{IsProfile}
use Rattle.rights.specs.Questions.{question_needs, Short, AsksAll}
use Rattle.rights.proofs.laws.Known.{is_good, is_sized}
use Rattle.rights.proofs.laws.questions.Requiring.{asked, accepts}
use Rattle.rights.proofs.laws.questions.OneAnswer.{said_yes}
use Rattle.index.proofs.laws.Refusing.{means_refused}
use Rattle.rights.proofs.laws.questions.AskingBy.{short_refused_later}
use Rattle.rights.proofs.questions.all_held.Goals as goal

pub returns-in_err-question : goal.returns-in_err-question
unfolding AsksAll
returns-in_err-question c =
    let a = c.args in
    let block = a.source.now.block in
    means_refused yes_no 0 (Short block.bytes.now a.user a.object a.request a.profile) c.from_residual.result _ c.from_residual.ensures.1
    (short_refused_later _ _ _ _ _ (is_sized block) (is_good block) _ c.in_err-question.ensures.number)

pub returns : goal.returns
unfolding AsksAll Short question_needs
returns c =
    let a = c.args in
    let block = a.source.now.block in
    let same = c.in_ok-question.ensures.same in
    let all = asked block.bytes.now a.user a.object a.request 15 (IsProfile a.profile) (omega arith) (is_sized block) (is_good block) refl
    c.in_ok-question.ensures.number in
    let right = rw (same.0, same.1, same.2, same.3) at c.holds_all.ensures in
    accepts block.bytes.now a.user a.object a.request 15 (IsProfile a.profile) (λ n. (n, 0)) _ _ all.0 all.1 (said_yes _ c.holds_all.result right)
