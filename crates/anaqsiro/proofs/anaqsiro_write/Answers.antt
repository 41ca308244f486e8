-- `anaqsiro::anaqsiro_write` meets its contract: what `write_set` answers, as a number and a value.
use Rattle.index.specs.Calls.{WritesSet, WriteAnswers}
use Rattle.anaqsiro.specs.Returned.{WriteReturns}
use Rattle.anaqsiro.proofs.Fits.{wrote_fits}
use Rattle.anaqsiro.proofs.Returning.{means_returned}
use Rattle.anaqsiro.proofs.anaqsiro_write.Goals as goal

pub returned-requires : goal.returned-requires
returned-requires c = wrote_fits _ _ _ _ _ _ c.write_set.ensures

pub returns : goal.returns
unfolding WriteReturns WriteAnswers
returns c = let a = c.args in means_returned (λ n. n) (λ o. WritesSet a.block.now a.kind a.key a.out.now (o.0, o.1, c.write_set.new.out)) c.write_set.result c.write_set.ensures c.returned.ensures
