-- Letter by letter, the counts are written.
use native.Mathlib.Omega.{arith}
use borrow.Author.Rules.{rules}
use Rattle.index.proofs.laws.message.Recount.{stepped}
use Rattle.index.proofs.messages.counts.recount.Goals as goal

pub loop-k-preserved : goal.loop-k-preserved
loop-k-preserved c =
    let d = c.loop-k.invariant in
    let k = c.loop-k.k in
    let a = c.requires.1 k (search rules) in
    stepped d (search rules) c.put_count.ensures (omega (arith, d.still k (omega arith) (search rules)))
