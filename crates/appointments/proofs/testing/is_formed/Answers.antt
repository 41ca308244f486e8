-- The marker and the last byte of an appointment.
use Rattle.std.proofs.Common.{◌≡◌, arith}
use Rattle.appointments.specs.work.Listed.{Formed}
use Rattle.index.proofs.laws.Answer.{says_same, equal_says}
use Rattle.index.proofs.laws.Deciding.{most_says}
use Rattle.appointments.proofs.laws.Tested.{marker_two}
use Rattle.appointments.proofs.testing.is_formed.Goals as goal

pub returns-then-entry-le-GREATEST_MARKER : goal.returns-then-entry-le-GREATEST_MARKER
returns-then-entry-le-GREATEST_MARKER c =
    says_same {P = c.args.entry.zero ≡ 0} {Q = Formed c.args.entry} _ (λ z. record { marked = (marker_two c.args.entry.marker).1 (omega arith); zero = z })
    (λ f. f.zero) (equal_says c.args.entry.zero 0)

pub returns-else-entry-le-GREATEST_MARKER : goal.returns-else-entry-le-GREATEST_MARKER
returns-else-entry-le-GREATEST_MARKER c =
    says_same {Q = Formed c.args.entry} _ (λ m. absurd (omega (arith, m))) (λ f. (marker_two c.args.entry.marker).0 f.marked) (most_says c.args.entry.marker 2)
