-- `anaqsiro::limits::anaqsiro_plain` meets its contract: what `rights_within` answers, as a number and a value.
use Rattle.plain.specs.Plain.{Within, AsksWithin}
use Rattle.anaqsiro.specs.Returned.{PlainReturns}
use Rattle.anaqsiro.proofs.Returning.{means_returned}
use Rattle.anaqsiro.proofs.limits.anaqsiro_plain.Goals as goal

pub returns : goal.returns
unfolding PlainReturns AsksWithin
returns c = let a = c.args in means_returned (λ mask. mask) (Within a.block.now a.user a.object a.request a.limit) c.rights_within.result c.rights_within.ensures c.returned.ensures
