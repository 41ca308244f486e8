-- The mask of a half: not 0, and each letter of it one that the kind may have.
use native.Mathlib.Omega.{arith}
use Rattle.index.specs.Message.{Masked}
use Rattle.index.proofs.laws.Answer.{says_same}
use Rattle.index.proofs.messages.halves.is_masked.Goals as goal

pub returns-then-h-eq0 : goal.returns-then-h-eq0
unfolding Masked
returns-then-h-eq0 c = λ m. omega (arith, m.0)

pub returns : goal.returns
unfolding Masked
returns c = says_same c.may_have_all.result (λ all. (omega arith, all)) (λ m. m.1) c.may_have_all.ensures
