-- `records::has_net` meets its contract. The loop's invariant: no record of the part before i has the key and the id.
use Prim.Native.Nat.{ℕ, ◌<◌, ◌≤◌}
use mathlib.Core.Path.{◌≡◌}
use Rattle.index.specs.Block.{key, id}
use Rattle.slips.proofs.records.has_net.Given as goal

abbrev pub invariant-loop-i : goal.invariant-loop-i
invariant-loop-i l = (l.initial.i ≤ l.i) × ((j : ℕ) → l.initial.i ≤ j → j < l.i → key l.block.bytes.now j ≡ l.x → id l.block.bytes.now j ≡ l.y → ⊥)
