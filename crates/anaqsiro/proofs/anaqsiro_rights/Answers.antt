-- `anaqsiro::anaqsiro_rights` meets its contract: what `rights_of` answers, as a number and a value of three parts.
use Rattle.rights.specs.Questions.{Full, Asks}
use Rattle.anaqsiro.specs.Returned.{RightsReturns}
use Rattle.anaqsiro.proofs.Fits.{parts_fit, value_fits}
use Rattle.anaqsiro.proofs.Returning.{rights_returned}
use Rattle.anaqsiro.proofs.anaqsiro_rights.Goals as goal

pub returned-requires : goal.returned-requires
returned-requires c = value_fits _ (parts_fit _ _ _ _ _ _ c.rights_of.ensures)

pub returns : goal.returns
unfolding RightsReturns Asks
returns c =
    let a = c.args in
    rights_returned (Full a.block.now a.user a.object a.request a.profile) c.rights_of.result (parts_fit _ _ _ _ _ _ c.rights_of.ensures) c.rights_of.ensures c.returned.ensures
