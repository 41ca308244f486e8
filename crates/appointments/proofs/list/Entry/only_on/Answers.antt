-- An appointment stands on the one day only.
use Rattle.std.proofs.Common.{◌≡◌, ◌&&◌, ◌∙◌, rules}
use lib.Dec.{leb, ltb}
use Rattle.appointments.specs.Appointment.{only_on}
use Rattle.appointments.proofs.laws.Asked.{on_days}
use Rattle.appointments.proofs.list.Entry.only_on.Goals as goal

pub returns-then-contains : goal.returns-then-contains
unfolding only_on
returns-then-contains c =
    let r = c.days-days.result in
    let v : c.contains.result ≡ leb r.start c.args.day && ltb c.args.day r.end = search rules in
    let u : c.contains-then-contains.result ≡ leb r.start c.args.other && ltb c.args.other r.end = search rules in
    let s = v ∙ on_days c.args.self c.args.day c.days-days.ensures.0 c.days-days.ensures.1 in
    let t = u ∙ on_days c.args.self c.args.other c.days-days.ensures.0 c.days-days.ensures.1 in
    rw (← s, ← t, c.if-contains.true)

pub returns-else-contains : goal.returns-else-contains
unfolding only_on
returns-else-contains c =
    let r = c.days-days.result in
    let v : c.contains.result ≡ leb r.start c.args.day && ltb c.args.day r.end = search rules in
    let s = v ∙ on_days c.args.self c.args.day c.days-days.ensures.0 c.days-days.ensures.1 in
    rw (← s, c.if-contains.false)
