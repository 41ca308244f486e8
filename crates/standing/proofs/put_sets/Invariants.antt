-- In the loop the sets from the key on are left.
use Rattle.std.proofs.Common.{◌+◌, ◌-◌, ◌≤◌, length}
use Rattle.index.specs.Block.{name_count}
use Rattle.index.proofs.laws.text.Writes.{Going}
use Rattle.standing.specs.Printed.{set_lines}
use Rattle.standing.proofs.put_sets.Given as goal

abbrev pub invariant-loop-key : goal.invariant-loop-key
invariant-loop-key l =
    (l.end + length (set_lines l.block l.kind l.key (name_count - l.key)) ≤ length l.out)
    × Going
    l.at
    (set_lines l.block l.kind 0 name_count)
    l.fn.out
    l.end
    (set_lines l.block l.kind l.key (name_count - l.key))
    l.out
