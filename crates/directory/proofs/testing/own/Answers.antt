-- `testing::own` meets its contract: the length, and the three parts.
use Rattle.index.specs.declared.Kind.TheVariants.{Membership, Permission, Filter}
use Rattle.index.proofs.laws.Answer.{says_same, yes_is, no_is}
use Rattle.directory.proofs.Standing.{right_own, own_right}
use Rattle.directory.proofs.testing.own.Goals as goal

pub returns-then-not-right : goal.returns-then-not-right
returns-then-not-right c = λ g p. no_is c.if-not-right.true (own_right g p Membership) (c.right.ensures g)

pub returns-then-not-right-2 : goal.returns-then-not-right-2
returns-then-not-right-2 c = λ g p. no_is c.if-not-right-2.true (own_right g p Permission) (c.right-2.ensures g)

pub returns : goal.returns
returns c =
    λ g.
    says_same c.right-3.result
    (right_own g c.if-directory-ne-LENGTH.false (yes_is c.if-not-right.false (c.right.ensures g))
    (yes_is c.if-not-right-2.false (c.right-2.ensures g)))
    (λ p. own_right g p Filter) (c.right-3.ensures g)
