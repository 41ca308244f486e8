-- `anaqsiro::anaqsiro_read_by` meets its contract: what `read_by` answers, as a number and a value.
use Rattle.directory.specs.By.{ReadBy, ReadAnswersBy}
use Rattle.anaqsiro.specs.Returned.{ReadByReturns}
use Rattle.anaqsiro.proofs.Fits.{took_fits_by}
use Rattle.anaqsiro.proofs.Returning.{read_returned}
use Rattle.anaqsiro.proofs.anaqsiro_read_by.Goals as goal

pub of_read-requires : goal.of_read-requires
of_read-requires c = took_fits_by _ _ _ _ _ _ _ _ c.read_by.ensures

pub returns : goal.returns
unfolding ReadByReturns ReadAnswersBy
returns c = let a = c.args in read_returned (λ o. ReadBy a.block.now a.directory.now a.kind a.key a.text.now (o.0, o.1, c.read_by.new.block, c.read_by.new.directory)) c.read_by.result c.read_by.ensures c.of_read.ensures
