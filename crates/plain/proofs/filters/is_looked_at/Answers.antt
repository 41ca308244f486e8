-- `filters::is_looked_at` meets its contract: the object itself, or a group that its M records name.
use Rattle.std.proofs.lemmas.Grind.{common_steps}
use borrow.Author.Rules.{rules}
use native.Mathlib.Omega.{arith}
use Rattle.rights.specs.Held.{Looked}
use Rattle.plain.proofs.filters.is_looked_at.Goals as goal

pub returns-then-name-object : goal.returns-then-name-object
unfolding Looked
returns-then-name-object c = search rules

pub returns : goal.returns
unfolding Looked
returns c = grind (arith, common_steps)
