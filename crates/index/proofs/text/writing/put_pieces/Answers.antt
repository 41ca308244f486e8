-- `index::text::writing::put_pieces` meets its contract: in the loop the letters from k on are left.
use Prim.Native.Nat.{ℕ, ◌+◌}
use mathlib.Core.List.{List}
use native.Mathlib.Omega.{arith}
use lib.ListN.{get_or}
use Rattle.index.specs.Letters.{letters}
use Rattle.index.specs.Text.{piece_of, counts_at}
use Rattle.index.proofs.laws.text.Writes.{going_next, going_last, todo, todo_step, todo_none}
use Rattle.index.proofs.laws.text.TextBound.{piece_bound}
use Rattle.index.proofs.text.writing.put_pieces.Goals as goal

pub loop-k-preserved : goal.loop-k-preserved
loop-k-preserved c =
    let start = c in
    let b : List ℕ = start.args.source.block.now in
    let i = start.args.source.i in
    let loop = c.loop-k in
    let k = loop.k in
    let n : ℕ = c.count.result in
    let e = start.requires.1.each k (omega arith) in
    let put = rw e at c.put_piece-end.ensures in (
      omega (arith, piece_bound (get_or letters k 0) n (omega arith), put.ends),
      going_next (piece_of (get_or letters k 0) n) (todo (counts_at b i) (k + 1)) loop.invariant.1 (todo_step b i k (omega arith) n c.count.ensures.is) put,
    )

pub returns : goal.returns
returns c = going_last c.loop-k.invariant.1 (todo_none _ _ c.loop-k.k (omega arith))
