-- `grants::granted` meets its contract. The loop's invariant: no P record so far grants the right.
use Prim.Native.Nat.{ℕ, ◌<◌, ◌≤◌}
use Rattle.plain.specs.work.Steps.{GrantsAt}
use Rattle.plain.proofs.grants.granted.Given as goal

abbrev pub invariant-loop-i : goal.invariant-loop-i
invariant-loop-i l = (l.first ≤ l.i) × ((j : ℕ) → l.first ≤ j → j < l.i → GrantsAt l.block.bytes.now l.user l.object l.right.place l.limit j → ⊥)
