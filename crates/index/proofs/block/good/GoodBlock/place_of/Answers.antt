-- The search by halves keeps the place between lo and hi.
use Prim.Native.Nat.{◌-◌, ◌+◌, ◌/◌}
use native.Mathlib.Omega.{arith}
use borrow.Author.Rules.{rules}
use Rattle.index.proofs.laws.block.Known.{is_good}
use Rattle.index.proofs.laws.block.Finding.{upper_half, lower_half}
use Rattle.index.proofs.block.good.GoodBlock.place_of.Goals as goal

pub loop-lo-preserved-then-spot-want : goal.loop-lo-preserved-then-spot-want
loop-lo-preserved-then-spot-want c =
    let mid = c.loop-lo.lo + (c.loop-lo.hi - c.loop-lo.lo) / 2 in
    upper_half c.args.kind (omega arith) (omega arith) (is_good c.args.self) mid (search rules) (search rules) c.loop-lo.invariant (omega arith)

pub loop-lo-preserved : goal.loop-lo-preserved
loop-lo-preserved c =
    let mid = c.loop-lo.lo + (c.loop-lo.hi - c.loop-lo.lo) / 2 in
    lower_half c.args.kind (omega arith) (omega arith) (is_good c.args.self) mid (search rules) (search rules) c.loop-lo.invariant (omega arith)
