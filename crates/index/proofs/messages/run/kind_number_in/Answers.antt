-- The number of a kind is read out of its change.
use mathlib.Core.Path.{refl}
use Rattle.index.specs.Message.{packed_kind}
use Rattle.index.proofs.messages.run.kind_number_in.Goals as goal

pub returns : goal.returns
unfolding packed_kind
returns c = refl
