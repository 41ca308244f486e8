-- `anaqsiro::anaqsiro_bears` meets its contract: what `bears` answers, as a number and a value.
use Rattle.index.specs.Numbers.{yes_no}
use Rattle.bearing.specs.Bearing.{Bearing, AsksBearing}
use Rattle.anaqsiro.specs.Returned.{BearsReturns}
use Rattle.anaqsiro.proofs.Returning.{means_returned}
use Rattle.anaqsiro.proofs.anaqsiro_bears.Goals as goal

pub returns : goal.returns
unfolding BearsReturns AsksBearing
returns c = let a = c.args in means_returned yes_no (Bearing a.block.now a.user a.object a.kind a.key a.id) c.bears.result c.bears.ensures c.returned.ensures
