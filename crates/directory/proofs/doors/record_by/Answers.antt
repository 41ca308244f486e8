-- `doors::record_by` meets its contract: what stands past the end counts as 0.
use native.Mathlib.Omega.{arith}
use Rattle.directory.proofs.OneDirectory.{part_in}
use Rattle.directory.proofs.doors.record_by.Goals as goal

pub overflow_add-at : goal.overflow_add-at
overflow_add-at c = omega (arith, c.part_at.ensures, part_in c.args.kind)
