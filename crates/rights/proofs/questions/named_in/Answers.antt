-- `questions::named_in` meets its contract: the block, and then the two names.
use Rattle.std.proofs.Common.{[], ◌∷◌}
use Rattle.index.specs.Block.{IsName}
use Rattle.index.specs.Calls.{block_needs}
use Rattle.index.specs.Numbers.{Answers}
use Rattle.index.proofs.laws.Firsts.{answers_first}
use Rattle.index.proofs.laws.Refusing.{some, passed_on}
use Rattle.rights.specs.Through.{through_needs}
use Rattle.rights.proofs.laws.questions.Requiring.{after_block}
use Rattle.rights.proofs.questions.named_in.Goals as goal

pub returns-in_err-source-clause-number : goal.returns-in_err-source-clause-number
unfolding through_needs
returns-in_err-source-clause-number c =
    let a = c.args in
    passed_on (Answers (through_needs a.block.now a.user a.object)) c.from_residual.result _ c.from_residual.ensures.1
    (answers_first (block_needs a.block.now) ((4, IsName a.user × IsName a.object) ∷ []) (some _) c.in_err-source.ensures.number)

pub returns-in_err-named-clause-number : goal.returns-in_err-named-clause-number
unfolding through_needs
returns-in_err-named-clause-number c =
    let a = c.args in
    passed_on (Answers (through_needs a.block.now a.user a.object)) c.from_residual-in_err-named.result _ c.from_residual-in_err-named.ensures.1
    (after_block a.block.now _ _ c.in_ok-source.ensures.number c.in_err-named.ensures)

pub returns-clause-number : goal.returns-clause-number
unfolding through_needs
returns-clause-number c = after_block c.args.block.now _ _ c.in_ok-source.ensures.number c.in_ok-named.ensures
