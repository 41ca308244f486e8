-- `groups::in_hers` meets its contract: the walk to her groups, whether there is one, the walk from the object, and whether they meet.
use Rattle.std.proofs.Common.{not, ap, arith}
use Rattle.index.proofs.laws.Answer.{yes_not, no_not, says_same}
use Rattle.rights.proofs.laws.held.Grouping.{unbound, met_bound, met_hers}
use Rattle.rights.proofs.laws.Known.{is_good}
use Rattle.rights.proofs.groups.in_hers.Goals as goal

pub returns-then-limit-eq0 : goal.returns-then-limit-eq0
returns-then-limit-eq0 c = λ bound. absurd (unbound _ _ _ c.if-limit-eq0.true bound)

pub side-requires-clause-start : goal.side-requires-clause-start
side-requires-clause-start c =
    (c.requires.0, (c.new-room.ensures c.args.source.now.block.bytes.now, omega (arith, c.requires.1.1)))

pub returns-then-not-meets : goal.returns-then-not-meets
returns-then-not-meets c = λ bound.
    absurd
    (no_not c.meets.result (ap not c.if-not-meets.true)
    ((met_bound c.args.limit (is_good c.args.source.now.block) c.args.user _ c.side.ensures.side c.if-limit-eq0.false).1 bound) c.meets.ensures)

pub returns : goal.returns
returns c =
    let limit = c.args.limit in
    let g = is_good c.args.source.now.block in
    let u = c.args.user in
    let users = c.side.ensures.side in
    let some = c.if-limit-eq0.false in
    let hers = met_hers limit g u _ users some c.args.object _ c.side-2.ensures.side in
    says_same c.meets-2.result (λ m bound. hers.0 m)
    (λ f. hers.1 (f ((met_bound limit g u _ users some).0 (yes_not c.meets.result (ap not c.if-not-meets.false) c.meets.ensures))))
    c.meets-2.ensures
