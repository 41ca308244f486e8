-- `anaqsiro::anaqsiro_rights_by` meets its contract: what `rights_by` answers, as a number and a value of three parts.
use Rattle.rights.specs.Questions.{FullBy, AsksBy}
use Rattle.anaqsiro.specs.Returned.{RightsByReturns}
use Rattle.anaqsiro.proofs.Fits.{parts_fit_by, value_fits}
use Rattle.anaqsiro.proofs.Returning.{rights_returned}
use Rattle.anaqsiro.proofs.anaqsiro_rights_by.Goals as goal

pub returned-requires : goal.returned-requires
returned-requires c = value_fits _ (parts_fit_by _ _ _ _ _ _ _ c.rights_by.ensures)

pub returns : goal.returns
unfolding RightsByReturns AsksBy
returns c =
    let a = c.args in
    rights_returned (FullBy a.block.now a.directory.now a.user a.object a.request a.profile) c.rights_by.result (parts_fit_by _ _ _ _ _ _ _ c.rights_by.ensures) c.rights_by.ensures c.returned.ensures
