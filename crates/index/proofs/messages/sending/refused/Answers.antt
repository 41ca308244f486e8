-- The tests of a message, in their order.
use mathlib.Core.Path.{refl}
use Rattle.index.specs.Numbers.{Answers}
use Rattle.index.specs.Calls.{sent_needs}
use Rattle.index.proofs.laws.message.SentTests.{wrong_block, wrong_form, wrong_name, wrong_mask, all_right}
use Rattle.index.proofs.laws.Refusing.{some, passed_on}
use Rattle.index.proofs.messages.sending.refused.Goals as goal

pub returns-in_err-tested : goal.returns-in_err-tested
returns-in_err-tested g c =
    let s = g.M.Message.sent c.args.m.now in
    passed_on (Answers (sent_needs c.args.b.now s)) c.from_residual.result _ c.from_residual.ensures.1
    (wrong_block c.args.b.now s (some _) c.in_err-tested.ensures)

pub returns-then-not-is_formed : goal.returns-then-not-is_formed
returns-then-not-is_formed g c =
    wrong_form c.args.b.now (g.M.Message.sent c.args.m.now) refl c.in_ok-tested.ensures c.if-not-is_formed.ensures

pub returns-then-not-named : goal.returns-then-not-named
returns-then-not-named g c =
    wrong_name c.args.b.now (g.M.Message.sent c.args.m.now) refl c.in_ok-tested.ensures c.if-not-is_formed.ensures c.if-not-named.ensures

pub returns-then-not-masked : goal.returns-then-not-masked
returns-then-not-masked g c =
    wrong_mask c.args.b.now (g.M.Message.sent c.args.m.now) refl c.in_ok-tested.ensures c.if-not-is_formed.ensures c.if-not-named.ensures c.if-not-masked.ensures

pub returns : goal.returns
returns g c =
    all_right c.args.b.now (g.M.Message.sent c.args.m.now) refl c.in_ok-tested.ensures c.if-not-is_formed.ensures c.if-not-named.ensures c.if-not-masked.ensures
