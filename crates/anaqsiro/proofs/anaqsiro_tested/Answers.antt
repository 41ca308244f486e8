-- `anaqsiro::anaqsiro_tested` meets its contract: the number is that of `tested`, and the value 0.
use Rattle.index.specs.Calls.{block_needs}
use Rattle.index.specs.Numbers.{Answers}
use Rattle.anaqsiro.specs.Returned.{TestedReturns}
use Rattle.anaqsiro.proofs.Returning.{number_returned}
use Rattle.anaqsiro.proofs.anaqsiro_tested.Goals as goal

pub returns : goal.returns
unfolding TestedReturns
returns c = let a = c.args in number_returned (λ n. Answers (block_needs a.block.now) n) c.tested.result c.tested.ensures c.returned.ensures
