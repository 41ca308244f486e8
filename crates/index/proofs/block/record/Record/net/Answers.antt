-- The net mask of a record: four decisions, one after the other.
use Rattle.std.proofs.Common.{refl}
use Rattle.index.specs.Block.{NetAt}
use Rattle.index.proofs.laws.block.Joining.{Joined, none, put_in, left_out, decided}
use Rattle.index.proofs.block.record.Record.net.Goals as goal
use Rattle.index.proofs.block.record.Record.net.Goals.{Joined-above_zero-3, then-above_zero, else-above_zero, then-above_zero-2, else-above_zero-2, then-above_zero-3, else-above_zero-3}

-- What is joined of the first three rights.
three : (c : Joined-above_zero-3) → Joined (NetAt c.args.self.block.now c.args.self.i) 3 c.if-above_zero-3.net
three c =
    let b = c.args.self.block.now in
    let i = c.args.self.i in
    let one : Joined (NetAt b i) 1 c.if-above_zero.net =
    let said = decided b i 0 _ _ c.above_zero.ensures c.above_zero-2.ensures in
    elim c.if-above_zero.branch [
      | then-above_zero w ↦ put_in _ _ _ (none _) _ _ said w.if-above_zero.true w.net-is w.mask_of-net.ensures
      | else-above_zero w ↦ left_out _ _ _ (none _) _ said w.if-above_zero.false w.net-is
    ] in
    let two : Joined (NetAt b i) 2 c.if-above_zero-2.net =
    let said = decided b i 1 _ _ c.above_zero-3.ensures c.above_zero-4.ensures in
    elim c.if-above_zero-2.branch [
      | then-above_zero-2 w ↦ put_in _ _ _ one _ _ said w.if-above_zero-2.true w.net-is w.mask_of-net-then-above_zero-2.ensures
      | else-above_zero-2 w ↦ left_out _ _ _ one _ said w.if-above_zero-2.false w.net-is
    ] in
    let said = decided b i 2 _ _ c.above_zero-5.ensures c.above_zero-6.ensures in
    elim c.if-above_zero-3.branch [
      | then-above_zero-3 w ↦ put_in _ _ _ two _ _ said w.if-above_zero-3.true w.net-is w.mask_of-net-then-above_zero-3.ensures
      | else-above_zero-3 w ↦ left_out _ _ _ two _ said w.if-above_zero-3.false w.net-is
    ]

-- The last right is put in or left out.
pub returns-then-above_zero-4 : goal.returns-then-above_zero-4
returns-then-above_zero-4 c =
    let said = decided c.args.self.block.now c.args.self.i 3 _ _ c.above_zero-7.ensures c.above_zero-8.ensures in
    put_in _ _ _ (three (goal.at.returns-then-above_zero-4 c).Joined-above_zero-3) _ _ said c.if-above_zero-4.true refl c.mask_of-net-then-above_zero-4.ensures

pub returns-else-above_zero-4 : goal.returns-else-above_zero-4
returns-else-above_zero-4 c =
    let said = decided c.args.self.block.now c.args.self.i 3 _ _ c.above_zero-7.ensures c.above_zero-8.ensures in
    left_out _ _ _ (three (goal.at.returns-else-above_zero-4 c).Joined-above_zero-3) _ said c.if-above_zero-4.false refl
