-- No marker, or one that the kind may have, in a half that is there.
use mathlib.Core.Logic.{inl, ⊎_elim}
use native.Mathlib.Omega.{arith}
use Rattle.index.specs.Message.{Marked}
use Rattle.index.proofs.laws.message.Halves.{kind_one, there_says}
use Rattle.index.proofs.messages.beginning.is_marked.Goals as goal

pub returns-then-markers-eq0 : goal.returns-then-markers-eq0
unfolding Marked
returns-then-markers-eq0 c = inl (omega arith)

pub returns-then-markers-gt2 : goal.returns-then-markers-gt2
unfolding Marked
returns-then-markers-gt2 c = ⊎_elim (λ e. omega arith) (λ m. omega (arith, m.0))

pub returns-then-kind-ne1 : goal.returns-then-kind-ne1
unfolding Marked
returns-then-kind-ne1 c = ⊎_elim (λ e. omega arith) (λ m. c.if-kind-ne1.true ((kind_one _).0 m.1))

pub returns : goal.returns
returns c = there_says _ _ (omega arith) (omega arith) (omega arith) c.args.there
