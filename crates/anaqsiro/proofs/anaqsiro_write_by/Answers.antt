-- `anaqsiro::anaqsiro_write_by` meets its contract: what `write_by` answers, as a number and a value.
use Rattle.directory.specs.By.{WriteBy, WriteAnswersBy}
use Rattle.anaqsiro.specs.Returned.{WriteByReturns}
use Rattle.anaqsiro.proofs.Fits.{wrote_fits_by}
use Rattle.anaqsiro.proofs.Returning.{means_returned}
use Rattle.anaqsiro.proofs.anaqsiro_write_by.Goals as goal

pub returned-requires : goal.returned-requires
returned-requires c = wrote_fits_by _ _ _ _ _ _ _ c.write_by.ensures

pub returns : goal.returns
unfolding WriteByReturns WriteAnswersBy
returns c = let a = c.args in means_returned (λ n. n) (λ o. WriteBy a.block.now a.directory.now a.kind a.key a.out.now (o.0, o.1, c.write_by.new.out)) c.write_by.result c.write_by.ensures c.returned.ensures
