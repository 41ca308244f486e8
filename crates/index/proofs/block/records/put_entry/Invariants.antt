-- `index::block::records::put_entry` meets its contract: key, id, and in the loop the counts.
use Prim.Native.Nat.{ℕ}
use mathlib.Core.Path.{◌≡◌}
use mathlib.Core.List.{List}
use lib.ListN.{length}
use Rattle.index.proofs.laws.text.Entering.{Entering}
use Rattle.index.proofs.block.records.put_entry.Given as goal

abbrev pub invariant-loop-k : goal.invariant-loop-k
invariant-loop-k l =
    (length l.b ≡ length l.initial.b)
    × ((a : List ℕ) → Entering l.key l.i (record { id = l.name; counts = l.counts }) 0 a l.initial.b
    → Entering l.key l.i (record { id = l.name; counts = l.counts }) l.k a l.b)
