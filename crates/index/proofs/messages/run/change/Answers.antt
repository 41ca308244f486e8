-- A change is read out of its number, and done.
use borrow.Author.Tests.{ne_eqb}
use Rattle.index.specs.Message.{packed_change}
use Rattle.index.proofs.messages.run.change.Goals as goal

pub returns-then-n-eq0 : goal.returns-then-n-eq0
unfolding packed_change
returns-then-n-eq0 c = rw c.if-n-eq0.true (rw c.half_in-h.ensures at c.take_away.ensures)

pub returns : goal.returns
unfolding packed_change
returns c = rw (ne_eqb _ _ c.if-n-eq0.false) (rw c.half_in-h.ensures at c.put_in.ensures)
