-- Letter by letter, the counts are written.
use Rattle.index.proofs.laws.message.Recount.{Partly}
use Rattle.index.proofs.messages.counts.recount.Given as goal

abbrev pub invariant-loop-k : goal.invariant-loop-k
invariant-loop-k l = Partly l.i l.less l.more l.k l.initial.b l.b
