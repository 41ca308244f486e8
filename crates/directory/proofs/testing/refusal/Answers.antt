-- `testing::refusal` meets its contract: the tests of the block, and then 13. What refuses the block is told by its number alone.
use mathlib.Core.Path.{refl, subst}
use mathlib.Core.List.{[], ◌∷◌}
use mathlib.Core.Logic.{inl}
use native.Mathlib.Omega.{arith}
use Rattle.std.proofs.lemmas.Grind.{common_steps}
use Rattle.index.specs.Numbers.{Answers}
use Rattle.index.specs.Calls.{block_needs}
use Rattle.index.proofs.laws.Firsts.{passed, answers_first, answers_next}
use Rattle.index.proofs.laws.Refusing.{some}
use Rattle.directory.specs.Directory.{Own}
use Rattle.directory.specs.By.{directory_needs}
use Rattle.directory.proofs.testing.refusal.Goals as goal

pub returns-in-Err : goal.returns-in-Err
unfolding directory_needs
returns-in-Err c =
    λ d other.
    subst (Answers (directory_needs c.args.block.now d)) (grind (arith, common_steps))
    (answers_first (block_needs c.args.block.now) ((13, Own c.args.block.now d) ∷ []) (some c.in-Err.refusal) c.in-Err.ensures)

pub returns-in-Ok : goal.returns-in-Ok
unfolding directory_needs block_needs
returns-in-Ok c =
    λ d other.
    let all = passed (block_needs c.args.block.now) (omega arith) refl c.in-Ok.ensures in
    answers_next (block_needs c.args.block.now) ((13, Own c.args.block.now d) ∷ []) 13 all (inl (other all.1.0, refl))
