-- `anaqsiro::limits::anaqsiro_rights_to` meets its contract: what `rights_to` answers, as a number and a value.
use Rattle.rights.specs.HeldTo.{HeldTo, AsksTo}
use Rattle.anaqsiro.specs.Returned.{RightsToReturns}
use Rattle.anaqsiro.proofs.Returning.{means_returned}
use Rattle.anaqsiro.proofs.limits.anaqsiro_rights_to.Goals as goal

pub returns : goal.returns
unfolding RightsToReturns AsksTo
returns c = let a = c.args in means_returned (λ mask. mask) (HeldTo a.block.now a.user a.object a.request a.limit) c.rights_to.result c.rights_to.ensures c.returned.ensures
