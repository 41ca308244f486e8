-- A list is tested by its length, and name by name.
use native.Mathlib.Omega.{arith}
use Rattle.index.specs.Wide.{names}
use Rattle.index.proofs.laws.Answer.{says_same}
use Rattle.index.proofs.laws.message.NameLists.{inside}
use Rattle.index.proofs.messages.names.WideLists.list_good.Goals as goal

pub rises-requires : goal.rises-requires
rises-requires c =
    let s = c in
    omega (arith, inside s.args.self.bytes.now s.args.self.placed s.args.q s.requires, c.length_at-n.ensures.0, c.offset_at.ensures.0)

pub returns-then-n-le-LONGEST : goal.returns-then-n-le-LONGEST
unfolding names
returns-then-n-le-LONGEST c =
    let n = c.length_at-n.ensures.0 in
    says_same c.rises.result (λ r. (omega arith, omega arith, rw (← n, ← c.offset_at.ensures.0) r)) (λ g. rw (n, c.offset_at.ensures.0) g.2) c.rises.ensures
