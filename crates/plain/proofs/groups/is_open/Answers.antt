-- `groups::is_open` meets its contract: she is not bound, the object is in no group, or one of hers is reached from it.
use native.Mathlib.Omega.{arith}
use Rattle.std.proofs.lemmas.Grind.{common_steps}
use Rattle.rights.specs.Groups.{Open}
use Rattle.plain.proofs.groups.is_open.Goals as goal

pub returns-then-not-is_bound : goal.returns-then-not-is_bound
unfolding Open
returns-then-not-is_bound c = grind (arith, common_steps)

pub returns-then-in_no_group : goal.returns-then-in_no_group
unfolding Open
returns-then-in_no_group c = grind (arith, common_steps)

pub returns : goal.returns
unfolding Open
returns c = grind (arith, common_steps)
