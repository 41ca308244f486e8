-- `testing::right` meets its contract: the entries rise, and the records lie between them.
use native.Mathlib.Omega.{arith}
use Rattle.directory.proofs.OneDirectory.{part_in}
use Rattle.directory.proofs.testing.right.Goals as goal

pub rises-requires : goal.rises-requires
rises-requires c = omega (arith, c.part_at-at.ensures, part_in c.args.kind, c.requires)
