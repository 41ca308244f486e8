-- `filters::passes` meets its contract. The loop's invariant: each F record so far that is looked at has the right.
use native.Mathlib.Omega.{arith}
use Rattle.index.proofs.laws.Answer.{no_is}
use Rattle.index.proofs.laws.block.Records.{few_records}
use Rattle.plain.proofs.laws.Holding.{lacks, passes_all}
use Rattle.index.proofs.laws.block.Known.{good_known, sized_known}
use Rattle.plain.proofs.filters.passes.Goals as goal

pub overflow_add-first : goal.overflow_add-first
overflow_add-first c = omega (arith, few_records (sized_known _ c.args.block.sized) (good_known _ c.args.block.good))

pub overflow_add-end : goal.overflow_add-end
overflow_add-end c = omega (arith, few_records (sized_known _ c.args.block.sized) (good_known _ c.args.block.good))

pub returns-then-is_looked_at : goal.returns-then-is_looked_at
returns-then-is_looked_at c =
    lacks (good_known _ c.args.block.good) _ _ c.loop-i.i c.args.right.small (omega arith, omega arith)
    (λ n. no_is c.if-not-has_right.true n c.has_right.ensures) (rw c.key_of.ensures at c.if-is_looked_at.ensures)

pub returns : goal.returns
returns c =
    passes_all (good_known _ c.args.block.good) _ _ c.args.right.small (λ i l h. c.loop-i.invariant.1 i (omega arith) (omega arith))
