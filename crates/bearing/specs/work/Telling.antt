-- For proofs only: a yes or no about a block that is tested first.
use Rattle.std.specs.Prelude.{ℕ, Bool, List, Result}
use Rattle.index.specs.Numbers.{First}
use Rattle.index.specs.Calls.{block_needs}
use Rattle.index.specs.declared.refusals.Refusal.{Refusal}
use Rattle.rights.specs.Questions.{YesWhen, AnswerMeans}

-- 1 or 2 of the block, or yes exactly when P holds.
unfoldable pub Tells : List ℕ → Type 0 → Result Bool Refusal → Type 0
Tells b P r = AnswerMeans (First (λ n. (n, 0)) (block_needs b) (YesWhen P)) r
