-- `filters::is_in` meets its contract. The loop's invariant: no M record so far names the group for the object.
use Prim.Native.Nat.{ℕ, ◌<◌, ◌≤◌}
use Rattle.plain.specs.work.Steps.{NamesAt}
use Rattle.plain.proofs.filters.is_in.Given as goal

abbrev pub invariant-loop-i : goal.invariant-loop-i
invariant-loop-i l = (j : ℕ) → 0 ≤ j → j < l.i → NamesAt l.block.bytes.now l.object l.group j → ⊥
