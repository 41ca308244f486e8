-- The bytes from j on are zero where their `or` is.
use lib.ListN.{get_or}
use Rattle.index.proofs.laws.block.Seen.{Seen}
use Rattle.index.proofs.block.checks.zero_from.Given as goal

abbrev pub invariant-loop-t : goal.invariant-loop-t
invariant-loop-t l = Seen 0 (λ n. get_or l.b n 0) l.j l.t l.seen
