-- `records::is_member` meets its contract. The loop's invariant: none of the letters so far is counted.
use Prim.Native.Nat.{ℕ, ◌<◌, ◌≤◌}
use Rattle.index.specs.Block.{count_at}
use Rattle.plain.proofs.records.is_member.Given as goal

abbrev pub invariant-loop-letter : goal.invariant-loop-letter
invariant-loop-letter l = (k : ℕ) → 0 ≤ k → k < l.letter → 0 < count_at l.block l.i k → ⊥
