-- The kind is the low four bits of a byte.
use mathlib.Core.Path.{refl}
use native.Mathlib.Omega.{arith}
use Rattle.index.specs.Message.{kind_in}
use Rattle.index.proofs.messages.beginning.HeadedMessage.kind_in.Goals as goal

pub returns : goal.returns
unfolding kind_in
returns c = (refl, omega arith)
