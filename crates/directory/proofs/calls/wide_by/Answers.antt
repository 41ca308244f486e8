-- `calls::wide_by` meets its contract: refused for the directory; or the message, and where it is accepted the directory made afresh.
use mathlib.Core.Path.{refl}
use Rattle.index.specs.Wide.Sent.{wide}
use Rattle.index.proofs.laws.Refusing.{some, passed_on}
use Rattle.directory.specs.By.{SendsBy}
use Rattle.directory.proofs.Keeping.{sent_other, sent_good, sent_kept}
use Rattle.directory.proofs.calls.wide_by.Goals as goal

pub returns-in_err-owned : goal.returns-in_err-owned
returns-in_err-owned c =
    let a = c.args in
    passed_on (λ n. SendsBy a.block.now a.directory.now (wide a.message.now) (n, 0, a.block.now, a.directory.now)) c.from_residual.result _ c.from_residual.ensures.1
    (sent_other _ _ _ _ (some _) c.in_err-owned.ensures.other)

pub returns-in_err-wide : goal.returns-in_err-wide
returns-in_err-wide c =
    let a = c.args in
    passed_on (λ n. SendsBy a.block.now a.directory.now (wide a.message.now) (n, 0, c.wide.new.block, a.directory.now)) c.from_residual-in_err-wide.result _
    c.from_residual-in_err-wide.ensures.1
    (sent_kept a.block.now (wide a.message.now) _ _ c.in_err-wide.ensures a.directory.now a.directory.now c.in_ok-owned.ensures.own (λ z. absurd (some _ z)) (λ s. refl))

pub fill-requires : goal.fill-requires
fill-requires c =
    let a = c.args in
    let good = sent_good a.block.now (wide a.message.now) _ _ c.in_ok-wide.ensures refl in
    (good.1, (c.in_ok-owned.ensures.own good.0).whole)

pub returns : goal.returns
returns c =
    let a = c.args in
    sent_kept a.block.now (wide a.message.now) _ _ c.in_ok-wide.ensures a.directory.now _ c.in_ok-owned.ensures.own (λ z. c.fill.ensures) (λ some. absurd (some refl))
