-- `making::fill_part` meets its contract. The loop's invariant: the records passed are through, and the entries below x are written.
use Prim.Native.Nat.{◌≤◌}
use Rattle.directory.proofs.Writing.{Through}
use Rattle.directory.proofs.making.fill_part.Given as goal

abbrev pub invariant-loop-i : goal.invariant-loop-i
invariant-loop-i l = (l.i ≤ l.part.end) × Through l.block l.part.from l.part.end l.at l.initial.directory l.directory l.i l.x
