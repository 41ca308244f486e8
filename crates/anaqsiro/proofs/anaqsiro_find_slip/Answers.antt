-- `anaqsiro::anaqsiro_find_slip` meets its contract: what `find_slip` answers, as a number and a value.
use Rattle.slips.specs.Calls.{FindAnswers}
use Rattle.anaqsiro.specs.Returned.{FindSlipReturns}
use Rattle.anaqsiro.proofs.Fits.{slip_fits}
use Rattle.anaqsiro.proofs.Returning.{sought_returned}
use Rattle.anaqsiro.proofs.anaqsiro_find_slip.Goals as goal

pub returns : goal.returns
unfolding FindSlipReturns FindAnswers
returns c =
    let a = c.args in
    sought_returned _ c.find_slip.result
    (λ s. slip_fits a.block.now a.user a.object a.right a.users.now a.objects.now c.find_slip.new.users c.find_slip.new.objects s c.find_slip.result
    c.find_slip.ensures)
    c.find_slip.ensures c.returned.ensures
