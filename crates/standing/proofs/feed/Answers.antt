-- `standing::feed` meets its contract: in the loop the messages from n on are to be read.
use Rattle.std.proofs.Common.{arith, rules}
use Rattle.std.proofs.lemmas.Result.{err_from_is_err_and}
use Rattle.standing.proofs.Feeding.{feeding_over, feeding_more, feeding_last, feeding_ended, feeding_broken}
use Rattle.standing.proofs.feed.Goals as goal

pub returns-in-Last-clause-fed : goal.returns-in-Last-clause-fed
returns-in-Last-clause-fed g c =
    feeding_last c.loop-n.invariant _ _ _ _ (search rules) (rw c.in-Last.is at c.in_ok-feed_one.ensures.came)

pub returns-in-Ended-clause-fed : goal.returns-in-Ended-clause-fed
returns-in-Ended-clause-fed g c = feeding_ended c.loop-n.invariant _ _ _ _ (rw c.in-Ended.is at c.in_ok-feed_one.ensures.came)

pub loop-n-preserved : goal.loop-n-preserved
loop-n-preserved g c =
    feeding_more c.loop-n.invariant _ _ _ _ (omega arith) (search rules) (rw c.in-More.is at c.in_ok-feed_one.ensures.came)

pub returns-clause-fed : goal.returns-clause-fed
returns-clause-fed g c = feeding_over c.loop-n.invariant (omega arith)

pub returns-in_err-feed_one-clause-stopped : goal.returns-in_err-feed_one-clause-stopped
returns-in_err-feed_one-clause-stopped g c =
    let p = err_from_is_err_and c.from_residual.result c.from_residual.ensures.1 in
    rw p.1 (feeding_broken c.loop-n.invariant (g.R.Read.remaining c.feed_one.new.input, g.W.Write.contents c.feed_one.new.output) _ _ _ (search rules) c.in_err-feed_one.ensures.broken)
