-- The bytes from j on are zero where their `or` is.
use Rattle.index.proofs.laws.block.Seen.{seen_more}
use Rattle.index.proofs.block.checks.zero_from.Goals as goal

pub loop-t-preserved : goal.loop-t-preserved
loop-t-preserved c = seen_more c.loop-t.auto.t c.loop-t.invariant
