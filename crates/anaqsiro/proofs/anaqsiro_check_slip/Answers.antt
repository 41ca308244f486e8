-- `anaqsiro::anaqsiro_check_slip` meets its contract: what `check_slip` answers, as a number and a value.
use Rattle.index.specs.Numbers.{yes_no}
use Rattle.slips.specs.Calls.{ChecksSlip, CheckAnswers}
use Rattle.anaqsiro.specs.Returned.{CheckSlipReturns}
use Rattle.anaqsiro.proofs.Returning.{means_returned}
use Rattle.anaqsiro.proofs.anaqsiro_check_slip.Goals as goal

pub returns : goal.returns
unfolding CheckSlipReturns CheckAnswers
returns c = let a = c.args in means_returned yes_no (ChecksSlip a.block.now a.user a.object a.right a.users.now a.objects.now) c.check_slip.result c.check_slip.ensures c.returned.ensures
