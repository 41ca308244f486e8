-- `groups::makes_hers` meets its contract: the record can be the last, and its key is reached with one record fewer.
use native.Mathlib.Omega.{arith}
use Rattle.index.proofs.laws.Answer.{yes_is, says_same}
use Rattle.plain.proofs.groups.makes_hers.Goals as goal

pub returns : goal.returns
returns c =
    let closed = yes_is c.if-not-closes.false c.closes.ensures in
    says_same c.reached.result (λ h. (omega arith, closed, rw c.key_of.ensures at h)) (λ h. rw c.key_of.ensures h.2) c.reached.ensures
