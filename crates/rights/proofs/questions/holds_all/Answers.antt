-- `questions::holds_all` meets its contract: the filters, whether all requested rights are granted, and whether the object is open.
use Rattle.index.proofs.laws.Answer.{says_same}
use Rattle.index.proofs.laws.block.Masks.{mask_limited}
use Rattle.rights.proofs.laws.questions.Asking.{filtered, granted_all, held_all, open_all}
use Rattle.rights.proofs.questions.holds_all.Goals as goal

pub returns-then-filter_of-question : goal.returns-then-filter_of-question
returns-then-filter_of-question c =
    let q = c.args.question in
    λ all. c.if-filter_of-question.true (filtered _ _ _ _ _ q.small (mask_limited c.filter_of.ensures q.request) all)

pub returns-then-granted-question : goal.returns-then-granted-question
returns-then-granted-question c =
    λ all. c.if-granted-question.true (granted_all _ _ _ _ _ c.args.question.small c.granted.ensures.mask all)

pub returns : goal.returns
returns c =
    let q = c.args.question in
    says_same c.is_open.result
    (λ opened.
    held_all _ _ _ _ _ q.small (mask_limited c.filter_of.ensures q.request) c.if-filter_of-question.false c.granted.ensures.mask
    c.if-granted-question.false opened)
    (λ all. open_all _ _ _ _ _ q.small c.requires all) c.is_open.ensures
