-- In the loop the messages from n on are to be read.
use Rattle.standing.proofs.Feeding.{Feeding}
use Rattle.standing.proofs.feed.Given as goal

abbrev pub invariant-loop-n : goal.invariant-loop-n
invariant-loop-n g l =
    Feeding
    (g.R.Read.remaining l.fn.input, g.W.Write.contents l.fn.output)
    (g.R.Read.remaining l.input, g.W.Write.contents l.output)
    l.fn.block
    l.block
    l.n
