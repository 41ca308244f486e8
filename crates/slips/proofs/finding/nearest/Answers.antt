-- `finding::nearest` meets its contract. The loop's invariant: the best of the P records before i.
use native.Mathlib.Omega.{arith}
use Rattle.slips.proofs.laws.Nearer.{is_nearest, is_nowhere}
use Rattle.slips.proofs.finding.nearest.Goals as goal

pub returns-then-best-lt-FAR : goal.returns-then-best-lt-FAR
returns-then-best-lt-FAR c = is_nearest c.loop-i.invariant.1 (omega (arith, c.part_of-part.ensures.last, c.loop-i-test.false)) c.if-best-lt-FAR.true

pub returns : goal.returns
returns c = is_nowhere c.loop-i.invariant.1 (omega (arith, c.part_of-part.ensures.last, c.loop-i-test.false)) c.if-best-lt-FAR.false
