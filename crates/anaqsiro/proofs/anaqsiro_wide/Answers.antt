-- `anaqsiro::anaqsiro_wide` meets its contract: the number is that of `wide`, and the value 0.
use Rattle.index.specs.Wide.Sent.{wide}
use Rattle.index.specs.Calls.{Sends}
use Rattle.anaqsiro.specs.Returned.{SendsReturns}
use Rattle.anaqsiro.proofs.Returning.{number_returned}
use Rattle.anaqsiro.proofs.anaqsiro_wide.Goals as goal

pub returns : goal.returns
unfolding SendsReturns
returns c = let a = c.args in number_returned (λ n. Sends a.block.now (wide a.message.now) (n, c.wide.new.block)) c.wide.result c.wide.ensures c.returned.ensures
