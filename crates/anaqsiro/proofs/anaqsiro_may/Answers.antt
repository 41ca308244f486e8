-- `anaqsiro::anaqsiro_may` meets its contract: what `may` answers, as a number and a value.
use Rattle.index.specs.Numbers.{yes_no}
use Rattle.rights.specs.Questions.{Short, AsksAll}
use Rattle.anaqsiro.specs.Returned.{MayReturns}
use Rattle.anaqsiro.proofs.Returning.{means_returned}
use Rattle.anaqsiro.proofs.anaqsiro_may.Goals as goal

pub returns : goal.returns
unfolding MayReturns AsksAll
returns c = let a = c.args in means_returned yes_no (Short a.block.now a.user a.object a.request a.profile) c.may.result c.may.ensures c.returned.ensures
