-- A block is good by its header, its parts and its tail.
use mathlib.Core.Path.{◌≡◌, ◌∙◌}
use native.Mathlib.Omega.{arith}
use Rattle.index.specs.declared.Kind.TheVariants.{Membership, Permission, Filter}
use Rattle.index.specs.Block.{place, records}
use Rattle.index.proofs.laws.Answer.{says_same}
use Rattle.index.proofs.laws.block.Checked.{part_of, good_of, each_kind, Whole}
use Rattle.index.proofs.block.checks.good.Goals as goal

pub returns-then-not-kind_good : goal.returns-then-not-kind_good
returns-then-not-kind_good c = λ g. c.if-not-kind_good.ensures (part_of g Membership)

pub returns-then-not-kind_good-2 : goal.returns-then-not-kind_good-2
returns-then-not-kind_good-2 c = λ g. c.if-not-kind_good-2.ensures (part_of g Permission)

pub returns-then-not-kind_good-3 : goal.returns-then-not-kind_good-3
returns-then-not-kind_good-3 c = λ g. c.if-not-kind_good-3.ensures (part_of g Filter)

pub returns : goal.returns
returns c =
    let b = c.args.b.now in
    let header = c.if-not-header_good.ensures in
    let e : c.number_at.result ≡ place (records b) = c.number_at.ensures.is ∙ header.end_offset in
    says_same c.zero_from.result
    (λ z. good_of (λ t. omega (arith, c.type_inv.b t)) header (each_kind (Whole b) c.if-not-kind_good.ensures c.if-not-kind_good-2.ensures c.if-not-kind_good-3.ensures) (rw e at z))
    (λ g. rw e g.tail)
    c.zero_from.ensures
