-- `asking::held` meets its contract: one right after the other is put in, or left out.
use native.Mathlib.Numerals.{add-one}
use native.Mathlib.Omega.{arith}
use Rattle.index.proofs.laws.block.Joining.{put_in, left_out}
use Rattle.plain.proofs.asking.held.Goals as goal
use Rattle.plain.proofs.asking.held.Goals.{then-is_given, else-is_given}

pub loop-place-preserved : goal.loop-place-preserved
loop-place-preserved c = (
  omega arith,
  rw (add-one c.loop-place.place)
      (elim c.if-is_given.branch [
        | then-is_given w ↦ put_in _ _ _ c.loop-place.invariant.1 _ _ c.is_given.ensures w.if-is_given.true w.rights-is w.mask_of-rights.ensures
        | else-is_given w ↦ left_out _ _ _ c.loop-place.invariant.1 _ c.is_given.ensures w.if-is_given.false w.rights-is
      ]),
)
