-- `index::text::writing::put_pieces` meets its contract: in the loop the letters from k on are left.
use Prim.Native.Nat.{◌+◌, ◌*◌, ◌≤◌}
use Rattle.index.specs.Text.{counts_at}
use Rattle.index.specs.work.Longest.{longest_piece}
use Rattle.index.proofs.laws.text.Writes.{Going, todo}
use Rattle.index.proofs.text.writing.put_pieces.Given as goal

abbrev pub invariant-loop-k : goal.invariant-loop-k
invariant-loop-k l = (l.end ≤ l.at + longest_piece * l.k) × Going l.at (todo (counts_at l.source.block.now l.source.i) 0) l.initial.out l.end (todo (counts_at l.source.block.now l.source.i) l.k) l.out
