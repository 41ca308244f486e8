-- The two questions that call each other end: the records left fall, and below them the records to go through. A part has fewer than 65,536.
use Prim.Native.Nat.{◌+◌, ◌*◌}
use Rattle.plain.proofs.reaching.+reached_through.Given as goal

abbrev pub decreases-reached : goal.decreases-reached
decreases-reached l = 131072 * l.left + 65536

abbrev pub decreases-through : goal.decreases-through
decreases-through l = 131072 * l.left + l.n
