-- `records::has_right` meets its contract: the capital letter is counted, and the small one is not.
use native.Mathlib.Omega.{arith}
use Rattle.index.proofs.laws.block.Records.{few_records}
use Rattle.rights.proofs.laws.Known.{is_good, is_sized}
use Rattle.slips.proofs.records.has_right.Goals as goal

pub overflow_cast-i : goal.overflow_cast-i
overflow_cast-i c = omega (arith, few_records (is_sized c.args.block) (is_good c.args.block), c.requires)

pub overflow_cast-i-2 : goal.overflow_cast-i-2
overflow_cast-i-2 c = omega (arith, few_records (is_sized c.args.block) (is_good c.args.block), c.requires)
