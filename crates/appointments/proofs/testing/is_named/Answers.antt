-- The names of an appointment.
use Rattle.std.proofs.Common.{arith}
use Rattle.index.specs.Message.{Named}
use Rattle.index.proofs.laws.Answer.{says_same}
use Rattle.index.proofs.laws.Deciding.{most_says}
use Rattle.appointments.specs.work.Listed.{appointment_of}
use Rattle.appointments.proofs.testing.is_named.Goals as goal

pub returns-then-entry-le-NAME : goal.returns-then-entry-le-NAME
unfolding appointment_of Named
returns-then-entry-le-NAME c = says_same {Q = Named (appointment_of c.args.entry).membership} _ (λ m. (omega arith, omega (arith, m))) (λ n. omega (arith, n.1)) (most_says c.args.entry.id 1023)

pub returns-else-entry-le-NAME : goal.returns-else-entry-le-NAME
unfolding appointment_of Named
returns-else-entry-le-NAME c = says_same {Q = Named (appointment_of c.args.entry).membership} _ (λ m. absurd (omega (arith, m))) (λ n. omega (arith, n.0)) (most_says c.args.entry.key 1023)
