-- The flag of a half is a bit.
use Rattle.index.specs.Message.{flags, present}
use Rattle.index.proofs.messages.beginning.HeadedMessage.is_present.Goals as goal

pub returns : goal.returns
unfolding flags present
returns c = rw (← c.number.ensures.0)
