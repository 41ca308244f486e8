-- Going back, change by change.
use Prim.Native.Nat.{◌-◌}
use mathlib.Core.Path.{◌∙◌}
use native.Mathlib.Omega.{arith}
use Rattle.index.proofs.laws.message.Running.{still_prepared, same_half, went_back}
use Rattle.index.proofs.messages.run.undo.Goals as goal

pub change-requires : goal.change-requires
change-requires c = rw (same_half _ _ c.opposite.ensures.0) (c.loop-i.invariant.1 (c.loop-i.i - 1) (omega arith))

pub loop-i-preserved : goal.loop-i-preserved
loop-i-preserved c = (
  c.change.auto.b ∙ c.loop-i.invariant.0,
  still_prepared c.change.ensures c.args.done.now c.loop-i.invariant.1,
  λ o w. went_back c.opposite.result (omega arith) c.opposite.ensures.0 c.opposite.ensures.1 c.change.ensures (c.loop-i.invariant.2 o w),
)
