-- `groups::meets` meets its contract: one M record after the other.
use Rattle.std.proofs.Common.{ℕ, ◌<◌, get_or}
use Rattle.index.specs.Block.{key, id}
use Rattle.rights.specs.Groups.{Closes}
use Rattle.rights.proofs.groups.meets.Given as goal

abbrev pub invariant-loop-i : goal.invariant-loop-i
invariant-loop-i l = (j : ℕ) → j < l.i
    → Closes l.block.bytes.now (key l.block.bytes.now j) (id l.block.bytes.now j) × (0 < get_or l.users (key l.block.bytes.now j) 0) × (0 < get_or l.objects (id l.block.bytes.now j) 0) → ⊥
