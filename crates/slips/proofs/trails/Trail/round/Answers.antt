-- `trails::Trail::round` meets its contract. The loop's invariant: the round is through with the names before place p.
use native.Mathlib.Omega.{arith}
use Rattle.slips.proofs.trails.Trail.round.Goals as goal

pub loop-p-preserved : goal.loop-p-preserved
loop-p-preserved c =
    let inv = c.loop-p.invariant in
    ((omega (arith, inv.0.0), (omega (arith, c.loop-p-test.true), omega (arith, inv.0.1.1, c.spread.ensures.listed_2.1))), (c.spread.ensures.listed_2.0, λ start t. c.spread.ensures.by_index start _ _ inv.0.0 c.loop-p-test.true (inv.1.1 start t)))
