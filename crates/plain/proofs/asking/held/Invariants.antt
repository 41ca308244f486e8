-- `asking::held` meets its contract: one right after the other is put in, or left out.
use Prim.Native.Nat.{◌≤◌}
use Rattle.index.specs.Letters.{right_count, In}
use Rattle.index.proofs.laws.block.Joining.{Joined}
use Rattle.rights.specs.Held.{Holds}
use Rattle.plain.proofs.asking.held.Given as goal

abbrev pub invariant-loop-place : goal.invariant-loop-place
invariant-loop-place l = (l.place ≤ right_count) × Joined (λ k. Holds l.limit l.block.bytes.now l.user l.object k × In k l.request) l.place l.rights
