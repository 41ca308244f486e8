-- The markers of a half are two bits of the kind byte.
use native.Mathlib.Omega.{arith}
use Rattle.index.specs.Message.{markers}
use Rattle.index.proofs.messages.beginning.HeadedMessage.markers_of.Goals as goal

pub returns : goal.returns
unfolding markers
returns c = (rw (← c.number.ensures.0), omega arith)
