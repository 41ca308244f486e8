-- A membership that does not count N.
use Rattle.std.proofs.Common.{arith}
use Rattle.index.proofs.laws.Answer.{says_same}
use Rattle.rights.specs.Groups.{WithoutN}
use Rattle.rights.proofs.laws.held.Members.{counts_n}
use Rattle.rights.proofs.laws.Known.{is_good}
use Rattle.rights.proofs.members.is_without_n.Goals as goal

pub returns-then-marks_of-ge-PAIR : goal.returns-then-marks_of-ge-PAIR
unfolding WithoutN
returns-then-marks_of-ge-PAIR c = λ p. omega (arith, p.1, (counts_n (is_good c.args.block) c.requires c.marks_of.ensures).0 (omega arith))

pub returns : goal.returns
unfolding WithoutN
returns c =
    let none = (counts_n (is_good c.args.block) c.requires c.marks_of.ensures).1 (omega arith) in
    says_same c.is_member.result (λ m. (m, none)) (λ p. p.0) c.is_member.ensures
