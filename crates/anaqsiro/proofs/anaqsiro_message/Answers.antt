-- `anaqsiro::anaqsiro_message` meets its contract: the number is that of `message`, and the value 0.
use Rattle.index.specs.Wide.Sent.{plain}
use Rattle.index.specs.Calls.{Sends}
use Rattle.anaqsiro.specs.Returned.{SendsReturns}
use Rattle.anaqsiro.proofs.Returning.{number_returned}
use Rattle.anaqsiro.proofs.anaqsiro_message.Goals as goal

pub returns : goal.returns
unfolding SendsReturns
returns c = let a = c.args in number_returned (λ n. Sends a.block.now (plain a.message.now) (n, c.message.new.block)) c.message.result c.message.ensures c.returned.ensures
