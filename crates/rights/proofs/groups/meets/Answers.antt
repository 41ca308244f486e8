-- `groups::meets` meets its contract: one M record after the other.
use Rattle.std.proofs.Common.{arith}
use Rattle.index.specs.Block.{key, id}
use Rattle.index.proofs.laws.Answer.{yes_is}
use Rattle.rights.specs.Groups.{WithoutN, Closes}
use Rattle.rights.specs.work.Marks.{Meets}
use Rattle.rights.proofs.laws.held.Members.{member_where}
use Rattle.rights.proofs.laws.Known.{is_good}
use Rattle.rights.proofs.groups.meets.Goals as goal

pub returns-then-meets_at : goal.returns-then-meets_at
unfolding Meets
returns-then-meets_at c =
    let m = yes_is c.if-meets_at.true c.meets_at.ensures in
    (key _ c.loop-i.i, id _ c.loop-i.i, m.0, m.1, m.2)

pub returns : goal.returns
unfolding Meets Closes WithoutN
returns c = λ m.
    let w = member_where (is_good c.args.block) m.2.0.0 in
    c.loop-i.invariant w.0 (omega (arith, w.1.of.1, c.loop-i-test.false, c.size_of-end.ensures)) (rw (w.1.has_key, w.1.has_id) (m.2, m.3, m.4))
