-- The days of an appointment.
use Rattle.std.proofs.Common.{arith}
use Rattle.calendar.proofs.laws.Terms.{no_span, is_span}
use Rattle.appointments.proofs.list.Entry.days.Goals as goal

pub returns-in-Ok : goal.returns-in-Ok
returns-in-Ok c =
    let s = is_span c.args.self.first c.args.self.term _ c.in-Ok.ensures in
    (omega (arith, s.1), omega (arith, s.2))

pub returns-in-Err : goal.returns-in-Err
returns-in-Err c = absurd (no_span c.args.self.first c.args.self.term _ c.in-Err.ensures c.requires)
