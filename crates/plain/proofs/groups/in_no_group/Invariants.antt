-- `groups::in_no_group` meets its contract. The loop's invariant: no M record so far is a membership of the object.
use Prim.Native.Nat.{ℕ, ◌<◌, ◌≤◌}
use mathlib.Core.Path.{◌≡◌}
use Rattle.index.specs.Block.{key, id}
use Rattle.rights.specs.Groups.{Member}
use Rattle.plain.proofs.groups.in_no_group.Given as goal

abbrev pub invariant-loop-i : goal.invariant-loop-i
invariant-loop-i l = (j : ℕ) → 0 ≤ j → j < l.i → (key l.block.bytes.now j ≡ l.object) × Member l.block.bytes.now l.object (id l.block.bytes.now j) → ⊥
