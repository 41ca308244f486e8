-- `grants::counts_for` meets its contract: name 0, or one that a chain leads to.
use mathlib.Core.Logic.{inl, ⊎_elim}
use Rattle.index.proofs.laws.Answer.{says_same}
use Rattle.plain.proofs.grants.counts_for.Goals as goal

pub returns : goal.returns
returns c =
    says_same c.reached.result (λ m. inl m) (λ l. ⊎_elim (λ m. m) (λ e. absurd (c.if-name-eq0.false e)) l) c.reached.ensures
