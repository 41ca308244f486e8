-- Both names of a half are tested.
use native.Mathlib.Omega.{arith}
use lib.Dec.{ltb}
use Rattle.index.specs.Block.{name_count}
use Rattle.index.specs.Message.{Named}
use Rattle.index.proofs.laws.Answer.{says_same, less_says}
use Rattle.index.proofs.messages.halves.is_named.Goals as goal

pub returns-then-h-ge-NAMES : goal.returns-then-h-ge-NAMES
unfolding Named
returns-then-h-ge-NAMES c = λ n. omega (arith, n.0)

pub returns : goal.returns
unfolding Named
returns c =
    let h = c.args.h in
    says_same (ltb h.id name_count) (λ l. (omega arith, l)) (λ n. n.1) (less_says h.id name_count)
