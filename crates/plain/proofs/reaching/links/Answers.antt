-- `reaching::links` meets its contract: what the record says, by its number.
use Rattle.index.proofs.laws.Answer.{says_same}
use Rattle.plain.proofs.laws.Records.{member_at, without_at, carries_at}
use Rattle.index.proofs.laws.block.Known.{good_known}
use Rattle.plain.proofs.reaching.links.Goals as goal

pub returns-in-Right : goal.returns-in-Right
returns-in-Right c =
    let same = carries_at (good_known _ c.args.block.good) c.requires _ c.in-Right.right.small in
    rw c.in-Right.is (says_same c.has_right.result same.0 same.1 c.has_right.ensures)

pub returns-in-WithoutN : goal.returns-in-WithoutN
returns-in-WithoutN c =
    let same = without_at (good_known _ c.args.block.good) c.requires in
    rw c.in-WithoutN.is (says_same c.is_without_n.result same.0 same.1 c.is_without_n.ensures)

pub returns-in-Member : goal.returns-in-Member
returns-in-Member c =
    let same = member_at (good_known _ c.args.block.good) c.requires in
    rw c.in-Member.is (says_same c.is_member.result same.0 same.1 c.is_member.ensures)
