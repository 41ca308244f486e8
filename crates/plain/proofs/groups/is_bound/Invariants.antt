-- `groups::is_bound` meets its contract. The loop's invariant: no M record so far makes a group hers.
use Prim.Native.Nat.{ℕ, ◌<◌, ◌≤◌}
use Rattle.plain.specs.work.Steps.{HersAt}
use Rattle.plain.proofs.groups.is_bound.Given as goal

abbrev pub invariant-loop-i : goal.invariant-loop-i
invariant-loop-i l = (j : ℕ) → 0 ≤ j → j < l.i → HersAt l.block.bytes.now l.user l.limit j → ⊥
