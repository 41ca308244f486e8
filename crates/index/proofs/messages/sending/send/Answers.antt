-- A message is refused by its tests, or carried out.
use mathlib.Core.Path.{refl}
use Rattle.index.specs.Calls.{Sends}
use Rattle.index.proofs.laws.message.SentTests.{sent_refused, sent_tested, sent_carried}
use Rattle.index.proofs.laws.Refusing.{some, passed_on}
use Rattle.index.proofs.messages.sending.send.Goals as goal

pub returns-in_err-refused : goal.returns-in_err-refused
returns-in_err-refused g c =
    let b = c.args.block.now in
    let s = g.M.Message.sent c.args.m.now in
    passed_on (λ n. Sends b s (n, b)) c.from_residual.result _ c.from_residual.ensures.1 (sent_refused b s (some _) c.in_err-refused.ensures)

pub carry-requires : goal.carry-requires
carry-requires g c = sent_tested c.args.block.now (g.M.Message.sent c.args.m.now) refl c.in_ok-refused.ensures

pub returns : goal.returns
returns g c = sent_carried c.args.block.now (g.M.Message.sent c.args.m.now) refl c.in_ok-refused.ensures _ c.carry.ensures
