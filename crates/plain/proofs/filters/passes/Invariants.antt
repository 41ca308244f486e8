-- `filters::passes` meets its contract. The loop's invariant: each F record so far that is looked at has the right.
use Prim.Native.Nat.{ℕ, ◌<◌, ◌≤◌}
use Rattle.index.specs.Block.{key, NetAt}
use Rattle.rights.specs.Held.{Looked}
use Rattle.plain.proofs.filters.passes.Given as goal

abbrev pub invariant-loop-i : goal.invariant-loop-i
invariant-loop-i l = (l.first ≤ l.i) × ((j : ℕ) → l.first ≤ j → j < l.i → Looked l.block.bytes.now l.object (key l.block.bytes.now j) → NetAt l.block.bytes.now j l.right.place)
