-- The M records that the block has all of: as many as there are, or as it has all of.
use native.Mathlib.Omega.{arith}
use Rattle.index.proofs.block.doors.whole_members.Goals as goal

pub returns : goal.returns
returns c =
    let all = c.whole_records.ensures in
    λ i. ((λ l. (omega arith, (all i).0 (omega arith))), (λ h. omega (arith, (all i).1 h.1, h.0)))
