-- Going on, change by change, or all the way back.
use mathlib.Core.Path.{◌∙◌, refl}
use native.Mathlib.Omega.{arith}
use Rattle.index.specs.work.Edits.Went.{nothing}
use Rattle.index.proofs.laws.Refusing.{some}
use Rattle.index.proofs.laws.message.Running.{still_prepared, went_all, went_refused, went_same, went_more}
use Rattle.std.proofs.lemmas.List.{get_or-take, length-take-le}
use Rattle.index.proofs.laws.message.RunningFront.{went_front}
use Rattle.index.proofs.messages.run.run.Goals as goal

pub loop-i-init : goal.loop-i-init
loop-i-init c = (refl, c.requires, nothing)

pub undo-requires : goal.undo-requires
undo-requires c = let p = still_prepared c.change.ensures c.args.changes.now c.loop-i.invariant.1 in λ j l. grind (arith, get_or-take, length-take-le, p)

pub returns-in-Err : goal.returns-in-Err
returns-in-Err c =
    let went = c.loop-i.invariant.2 in
    rw (c.undo.ensures _ (went_front _ c.loop-i.i (omega arith) (went_same went c.in-Err.ensures (some _))))
    (went_refused went (omega arith) c.in-Err.ensures (some _))

pub loop-i-preserved : goal.loop-i-preserved
loop-i-preserved c = (
  c.change.auto.b ∙ c.loop-i.invariant.0,
  still_prepared c.change.ensures c.args.changes.now c.loop-i.invariant.1,
  went_more c.loop-i.invariant.2 (c.loop-i.invariant.1 c.loop-i.i (omega arith)) c.in_default.ensures refl,
)

pub returns : goal.returns
returns c = went_all c.loop-i.invariant.2 (omega arith)
