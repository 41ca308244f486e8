-- The length of a list is a byte.
use mathlib.Core.Path.{refl}
use native.Mathlib.Omega.{arith}
use Rattle.index.specs.Wide.{list_length}
use Rattle.index.proofs.messages.names.WideHeader.length_at.Goals as goal

pub returns : goal.returns
unfolding list_length
returns c = (refl, omega arith)
