-- `grants::grants` meets its contract: the net mask, the user's chain, and the object's.
use Prim.Native.Nat.{ℕ}
use mathlib.Core.Path.{◌≡◌, sym, subst}
use mathlib.Core.Logic.{◌⊎◌}
use Rattle.index.proofs.laws.Answer.{yes_is, says_same}
use Rattle.rights.specs.Chain.{Chain}
use Rattle.rights.specs.Held.{Carries}
use Rattle.plain.proofs.grants.grants.Goals as goal

pub returns : goal.returns
returns c =
    let args = c.args in
    let Counts : ℕ → Type 0 = λ x. Chain (Carries args.block.bytes.now args.right.place) args.limit args.object x ⊎ (x ≡ 0) in
    let net = yes_is c.if-not-has_right.false c.has_right.ensures in
    let chain = rw c.id_of.ensures at (yes_is c.if-not-reached.false c.reached.ensures) in
    says_same c.counts_for.result (λ h. (net, chain, subst Counts c.key_of.ensures h)) (λ g. subst Counts (sym c.key_of.ensures) g.2)
    c.counts_for.ensures
