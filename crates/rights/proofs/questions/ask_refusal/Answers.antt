-- `questions::ask_refusal` meets its contract: the block, and then the names and the request.
use Rattle.std.proofs.Common.{◌++◌}
use Rattle.index.specs.Calls.{block_needs}
use Rattle.index.specs.Numbers.{Answers}
use Rattle.index.proofs.laws.Firsts.{answers_first}
use Rattle.index.proofs.laws.Refusing.{some, passed_on}
use Rattle.rights.specs.Questions.{ask_needs}
use Rattle.rights.proofs.laws.questions.Requiring.{after_block}
use Rattle.rights.proofs.questions.ask_refusal.Goals as goal

pub returns-in_err-tested : goal.returns-in_err-tested
returns-in_err-tested c =
    let a = c.args in
    passed_on (Answers (block_needs a.block.now ++ ask_needs a.user a.object a.request)) c.from_residual.result _ c.from_residual.ensures.1
    (answers_first (block_needs a.block.now) (ask_needs a.user a.object a.request) (some _) c.in_err-tested.ensures)

pub returns : goal.returns
returns c = after_block c.args.block.now _ _ c.in_ok-tested.ensures c.requested.ensures
