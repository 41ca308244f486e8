-- An appointment stands on a day.
use Rattle.std.proofs.Common.{◌≡◌, ◌&&◌, ◌∙◌, rules}
use lib.Dec.{leb, ltb}
use Rattle.appointments.proofs.laws.Asked.{on_days}
use Rattle.appointments.proofs.list.Entry.stands_on.Goals as goal

pub returns : goal.returns
returns c =
    let r = c.days.result in
    let v : c.contains.result ≡ leb r.start c.args.day && ltb c.args.day r.end = search rules in
    v ∙ on_days c.args.self c.args.day c.days.ensures.0 c.days.ensures.1
