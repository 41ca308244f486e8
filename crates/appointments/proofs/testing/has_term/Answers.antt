-- The term of an appointment.
use Rattle.appointments.proofs.laws.Tested.{span_says}
use Rattle.appointments.proofs.testing.has_term.Goals as goal

pub returns : goal.returns
returns c = rw c.is_ok.ensures.value (span_says c.args.entry.first c.args.entry.term _ c.span_of.ensures)
