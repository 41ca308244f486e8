-- `grants::granted` meets its contract. The loop's invariant: no P record so far grants the right.
use native.Mathlib.Omega.{arith}
use Rattle.index.proofs.laws.block.Records.{few_records}
use Rattle.index.proofs.laws.block.Known.{good_known, sized_known}
use Rattle.plain.proofs.grants.granted.Goals as goal

pub overflow_add-end : goal.overflow_add-end
overflow_add-end c = omega (arith, few_records (sized_known _ c.args.block.sized) (good_known _ c.args.block.good))
