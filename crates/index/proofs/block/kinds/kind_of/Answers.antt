-- The kind of each number.
use mathlib.Core.Path.{◌≡◌}
use borrow.Author.Tests.{ne_eqb}
use native.Mathlib.Omega.{arith}
use Rattle.index.specs.Message.{kind_of}
use Rattle.index.proofs.block.kinds.kind_of.Goals as goal

pub returns-in-1 : goal.returns-in-1
unfolding kind_of
returns-in-1 c = rw c.in-1.is

pub returns-in-2 : goal.returns-in-2
unfolding kind_of
returns-in-2 c = rw c.in-2.is

pub returns-in_default : goal.returns-in_default
unfolding kind_of
returns-in_default c =
    let one : c.args.n ≡ 1 → ⊥ = omega arith in
    let two : c.args.n ≡ 2 → ⊥ = omega arith in
    rw (ne_eqb c.args.n 1 one, ne_eqb c.args.n 2 two)
