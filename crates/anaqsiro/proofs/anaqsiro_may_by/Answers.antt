-- `anaqsiro::anaqsiro_may_by` meets its contract: what `may_by` answers, as a number and a value.
use Rattle.index.specs.Numbers.{yes_no}
use Rattle.rights.specs.Questions.{ShortBy, AsksAllBy}
use Rattle.anaqsiro.specs.Returned.{MayByReturns}
use Rattle.anaqsiro.proofs.Returning.{means_returned}
use Rattle.anaqsiro.proofs.anaqsiro_may_by.Goals as goal

pub returns : goal.returns
unfolding MayByReturns AsksAllBy
returns c = let a = c.args in means_returned yes_no (ShortBy a.block.now a.directory.now a.user a.object a.request a.profile) c.may_by.result c.may_by.ensures c.returned.ensures
