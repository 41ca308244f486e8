-- `anaqsiro::anaqsiro_message_by` meets its contract: the number is that of `message_by`, and the value 0.
use Rattle.index.specs.Wide.Sent.{plain}
use Rattle.directory.specs.By.{SendsBy}
use Rattle.anaqsiro.specs.Returned.{SendsByReturns}
use Rattle.anaqsiro.proofs.Returning.{zero_returned}
use Rattle.anaqsiro.proofs.anaqsiro_message_by.Goals as goal

pub returns : goal.returns
unfolding SendsByReturns
returns c =
    let a = c.args in
    zero_returned (λ n v. SendsBy a.block.now a.directory.now (plain a.message.now) (n, v, c.message_by.new.block, c.message_by.new.directory)) c.message_by.result c.message_by.ensures
    c.returned.ensures
