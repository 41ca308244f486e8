-- `groups::in_hers` meets its contract. The loop's invariant: no M record so far makes a group hers that is reached from the object.
use Prim.Native.Nat.{ℕ, ◌<◌, ◌≤◌}
use Rattle.index.specs.Block.{id}
use Rattle.rights.specs.Chain.{Chain}
use Rattle.rights.specs.Groups.{Member}
use Rattle.plain.specs.work.Steps.{HersAt}
use Rattle.plain.proofs.groups.in_hers.Given as goal

abbrev pub invariant-loop-i : goal.invariant-loop-i
invariant-loop-i l = (j : ℕ) → 0 ≤ j → j < l.i → HersAt l.block.bytes.now l.user l.limit j × Chain (Member l.block.bytes.now) l.limit l.object (id l.block.bytes.now j) → ⊥
