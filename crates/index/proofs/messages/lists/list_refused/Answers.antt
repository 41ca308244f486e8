-- The tests of a list of changes, in their order.
use mathlib.Core.Path.{refl}
use mathlib.Core.Logic.{inl, inr}
use Rattle.index.specs.Numbers.{Answers}
use Rattle.index.specs.Calls.{block_needs, list_needs}
use Rattle.index.proofs.laws.message.ListTests.{own_needs}
use Rattle.index.proofs.laws.message.SentTests.{block_late}
use Rattle.index.proofs.laws.Firsts.{answers_first}
use Rattle.index.proofs.laws.Refusing.{some, passed_on}
use Rattle.index.proofs.messages.lists.list_refused.Goals as goal

pub returns-in_err-tested : goal.returns-in_err-tested
unfolding list_needs
returns-in_err-tested c =
    passed_on (Answers (list_needs c.args.block.now c.args.changes.now)) c.from_residual.result _ c.from_residual.ensures.1
    (answers_first (block_needs c.args.block.now) (own_needs c.args.changes.now) (some _) c.in_err-tested.ensures)

pub returns-then-not-all_formed : goal.returns-then-not-all_formed
unfolding list_needs
returns-then-not-all_formed c =
    block_late c.args.block.now (own_needs c.args.changes.now) 3 refl c.in_ok-tested.ensures (inl (c.if-not-all_formed.ensures, refl))

pub returns-then-not-all_named : goal.returns-then-not-all_named
unfolding list_needs
returns-then-not-all_named c =
    block_late c.args.block.now (own_needs c.args.changes.now) 4 refl c.in_ok-tested.ensures
    (inr (c.if-not-all_formed.ensures, inl (c.if-not-all_named.ensures, refl)))

pub returns-then-not-all_masked : goal.returns-then-not-all_masked
unfolding list_needs
returns-then-not-all_masked c =
    block_late c.args.block.now (own_needs c.args.changes.now) 5 refl c.in_ok-tested.ensures
    (inr (c.if-not-all_formed.ensures, inr (c.if-not-all_named.ensures, inl (c.if-not-all_masked.ensures, refl))))

pub returns : goal.returns
unfolding list_needs
returns c =
    block_late c.args.block.now (own_needs c.args.changes.now) 0 refl c.in_ok-tested.ensures
    (inr (c.if-not-all_formed.ensures, inr (c.if-not-all_named.ensures, inr (c.if-not-all_masked.ensures, refl))))
