-- A membership that counts X and not N.
use Rattle.std.proofs.Common.{arith}
use Rattle.index.proofs.laws.Answer.{says_same}
use Rattle.rights.specs.Groups.{Closes}
use Rattle.rights.proofs.laws.held.Members.{counts_x}
use Rattle.rights.proofs.laws.Known.{is_good}
use Rattle.rights.proofs.members.closes.Goals as goal

pub returns-then-marks_of-eq0 : goal.returns-then-marks_of-eq0
unfolding Closes
returns-then-marks_of-eq0 c = λ p. omega (arith, p.1, (counts_x (is_good c.args.block) c.requires c.marks_of.ensures).0 c.if-marks_of-eq0.true)

pub returns : goal.returns
unfolding Closes
returns c =
    let some = (counts_x (is_good c.args.block) c.requires c.marks_of.ensures).1 c.if-marks_of-eq0.false in
    says_same c.is_without_n.result (λ m. (m, some)) (λ p. p.0) c.is_without_n.ensures
