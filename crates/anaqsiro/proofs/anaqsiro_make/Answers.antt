-- `anaqsiro::anaqsiro_make` meets its contract: the number is that of `make`, and the value 0.
use Rattle.index.specs.Calls.{Makes}
use Rattle.anaqsiro.specs.Returned.{MakeReturns}
use Rattle.anaqsiro.proofs.Returning.{number_returned}
use Rattle.anaqsiro.proofs.anaqsiro_make.Goals as goal

pub returns : goal.returns
unfolding MakeReturns
returns c = let a = c.args in number_returned (λ n. Makes a.block.now (n, c.make.new.block)) c.make.result c.make.ensures c.returned.ensures
