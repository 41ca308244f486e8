-- `anaqsiro::anaqsiro_read` meets its contract: what `read_set` answers, as a number and a value.
use Rattle.index.specs.Calls.{ReadsSet, ReadAnswers}
use Rattle.anaqsiro.specs.Returned.{ReadReturns}
use Rattle.anaqsiro.proofs.Fits.{took_fits}
use Rattle.anaqsiro.proofs.Returning.{read_returned}
use Rattle.anaqsiro.proofs.anaqsiro_read.Goals as goal

pub of_read-requires : goal.of_read-requires
of_read-requires c = took_fits _ _ _ _ _ _ c.read_set.ensures

pub returns : goal.returns
unfolding ReadReturns ReadAnswers
returns c = let a = c.args in read_returned (λ o. ReadsSet a.block.now a.kind a.key a.text.now (o.0, o.1, c.read_set.new.block)) c.read_set.result c.read_set.ensures c.of_read.ensures
