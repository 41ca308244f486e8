-- `groups::in_no_group` meets its contract: none of the M records of the object is a membership.
use Rattle.std.proofs.Common.{arith}
use Rattle.index.specs.Block.{id}
use Rattle.index.proofs.laws.Answer.{yes_is}
use Rattle.rights.specs.Groups.{InNoGroup}
use Rattle.rights.proofs.laws.held.Members.{member_where}
use Rattle.rights.proofs.laws.Known.{is_good}
use Rattle.rights.proofs.groups.in_no_group.Goals as goal

pub is_member-requires : goal.is_member-requires
is_member-requires c = ((c.records_of-groups.ensures c.loop-i.i).0 (c.loop-i.auto.i, c.loop-i-test.true)).0

pub returns-then-is_member : goal.returns-then-is_member
unfolding InNoGroup
returns-then-is_member c =
    let own = ((c.records_of-groups.ensures c.loop-i.i).0 (c.loop-i.auto.i, c.loop-i-test.true)).1 in
    λ none. none (id _ c.loop-i.i) (rw own at (yes_is c.if-is_member.true c.is_member.ensures))

pub returns : goal.returns
unfolding InNoGroup
returns c = λ y m.
    let w = member_where (is_good c.args.source.now.block) m in
    let k = (c.records_of-groups.ensures w.0).1 (w.1.of, w.1.has_key) in
    c.loop-i.invariant w.0 k.0 (omega (arith, k.1, c.loop-i-test.false)) (rw (w.1.has_key, w.1.has_id) m)
