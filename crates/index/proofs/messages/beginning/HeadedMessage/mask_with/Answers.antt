-- A mask byte and the markers of its half are one mask.
use native.Mathlib.Omega.{arith}
use Rattle.index.specs.Message.{mask_with}
use Rattle.index.proofs.messages.beginning.HeadedMessage.mask_with.Goals as goal

pub returns : goal.returns
unfolding mask_with
returns c = (rw c.markers_of.ensures.0, omega (arith, c.markers_of.ensures.1))
