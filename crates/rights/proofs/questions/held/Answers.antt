-- `questions::held` meets its contract: the refusal, or the rights held and the records examined, with chains of at most 32 records.
use Rattle.std.proofs.Common.{refl, arith}
use Rattle.rights.specs.Profiles.{IsProfile}
use Rattle.rights.specs.Questions.{question_needs, unreported, Full, Asks, reach_value}
use Rattle.rights.proofs.laws.Known.{is_good, is_sized}
use Rattle.rights.proofs.laws.questions.Requiring.{asked, accepts}
use Rattle.index.proofs.laws.Refusing.{means_refused}
use Rattle.rights.proofs.laws.questions.AskingBy.{full_refused_later}
use Rattle.rights.proofs.questions.held.Goals as goal

pub returns-in_err-question : goal.returns-in_err-question
unfolding Asks
returns-in_err-question c =
    let a = c.args in
    let block = a.source.now.block in
    means_refused reach_value (0, 0, 0) (λ o. Full block.bytes.now a.user a.object a.request a.profile (o.0, o.1.0, o.1.1, o.1.2)) c.from_residual.result _ c.from_residual.ensures.1
    (full_refused_later _ _ _ _ _ (is_sized block) (is_good block) _ c.in_err-question.ensures.number)

pub returns : goal.returns
unfolding Asks Full question_needs
returns c =
    let a = c.args in
    let block = a.source.now.block in
    let same = c.in_ok-question.ensures.same in
    let all = asked block.bytes.now a.user a.object a.request 15 (IsProfile a.profile) (omega arith) (is_sized block) (is_good block) refl
    c.in_ok-question.ensures.number in
    let limited = rw (same.0, same.1, same.2, same.3) at c.within.ensures.limited in
    let count = rw (same.0, same.1) at c.within.ensures.count in
    accepts block.bytes.now a.user a.object a.request 15 (IsProfile a.profile) unreported _ _ all.0 all.1 (refl, limited, count.0.sum, count.1.sum)
