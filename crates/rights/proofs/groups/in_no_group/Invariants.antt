-- `groups::in_no_group` meets its contract: none of the M records of the object is a membership.
use Rattle.std.proofs.Common.{ℕ, ◌<◌, ◌≤◌}
use Rattle.index.specs.Block.{key, id}
use Rattle.rights.specs.Groups.{Member}
use Rattle.rights.proofs.groups.in_no_group.Given as goal

abbrev pub invariant-loop-i : goal.invariant-loop-i
invariant-loop-i l = (j : ℕ) → l.initial.i ≤ j → j < l.i → Member l.source.block.bytes.now (key l.source.block.bytes.now j) (id l.source.block.bytes.now j) → ⊥
