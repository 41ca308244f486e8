-- `anaqsiro::anaqsiro_stands` meets its contract: what `stands` answers, as a number and a value.
use Rattle.index.specs.Numbers.{yes_no}
use Rattle.appointments.specs.Asking.{Stands, StandsAnswers}
use Rattle.anaqsiro.specs.Returned.{StandsReturns}
use Rattle.anaqsiro.proofs.Returning.{means_returned}
use Rattle.anaqsiro.proofs.anaqsiro_stands.Goals as goal

pub returns : goal.returns
unfolding StandsReturns StandsAnswers
returns c = let a = c.args in means_returned yes_no (Stands a.appointment.now a.day) c.stands.result c.stands.ensures c.returned.ensures
