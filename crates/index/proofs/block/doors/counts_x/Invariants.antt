-- An M record counts X where the `or` of all their counts of X is above zero.
use Rattle.index.specs.Letters.{marker_x}
use Rattle.index.specs.Block.{count_at}
use Rattle.index.proofs.laws.block.Seen.{Some}
use Rattle.index.proofs.block.doors.counts_x.Given as goal

abbrev pub invariant-loop-i : goal.invariant-loop-i
invariant-loop-i l = Some (λ n. count_at l.b n marker_x) l.i l.seen
