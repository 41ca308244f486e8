-- `anaqsiro::anaqsiro_wide_by` meets its contract: the number is that of `wide_by`, and the value 0.
use Rattle.index.specs.Wide.Sent.{wide}
use Rattle.directory.specs.By.{SendsBy}
use Rattle.anaqsiro.specs.Returned.{SendsByReturns}
use Rattle.anaqsiro.proofs.Returning.{zero_returned}
use Rattle.anaqsiro.proofs.anaqsiro_wide_by.Goals as goal

pub returns : goal.returns
unfolding SendsByReturns
returns c =
    let a = c.args in
    zero_returned (λ n v. SendsBy a.block.now a.directory.now (wide a.message.now) (n, v, c.wide_by.new.block, c.wide_by.new.directory)) c.wide_by.result c.wide_by.ensures
    c.returned.ensures
