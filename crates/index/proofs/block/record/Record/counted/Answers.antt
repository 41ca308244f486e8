-- The letters that a record counts, from one on: one after the other is put in, or left out.
use Prim.Native.Nat.{ℕ, suc, ◌+◌, ◌<◌}
use mathlib.Core.Path.{◌≡◌, subst}
use native.Mathlib.Omega.{arith}
use Rattle.index.specs.Block.{count_at}
use Rattle.index.proofs.laws.block.Joining.{Joined, put_in, left_out}
use Rattle.index.proofs.block.record.Record.counted.Goals as goal
use Rattle.index.proofs.block.record.Record.counted.Goals.{then-above_zero, else-above_zero}

pub loop-k-preserved : goal.loop-k-preserved
loop-k-preserved c =
    let s = c in
    let Counts : ℕ → Type 0 = λ j. 0 < count_at s.args.self.block.now s.args.self.i (j + s.args.first) in
    let loop = c.loop-k in
    let told = c.above_zero.ensures in
    let e : suc loop.k ≡ loop.k + 1 = omega arith in
    subst (λ (n : ℕ). Joined Counts n c.if-above_zero.mask) e
    (elim c.if-above_zero.branch [
      | then-above_zero w ↦ put_in _ _ _ loop.invariant _ _ told w.if-above_zero.true w.mask-is w.mask_of-mask.ensures
      | else-above_zero w ↦ left_out _ _ _ loop.invariant _ told w.if-above_zero.false w.mask-is
    ])
