-- `walk::spread` meets its contract. The loop's invariant: what the records of the names before and those of this one up to i
-- bring, and the names whose marks have grown.
use Rattle.std.proofs.Common.{◌≡◌, ◌+◌, length}
use Rattle.index.specs.Block.{name_count}
use Rattle.rights.specs.work.Fronts.{Front, Spread}
use Rattle.rights.proofs.laws.walk.Looking.{Own}
use Rattle.rights.proofs.laws.walk.Rounding.{Upto}
use Rattle.rights.proofs.walk.spread.Given as goal

abbrev pub invariant-loop-i : goal.invariant-loop-i
invariant-loop-i l = record {
  many : l.initial.i + l.examined ≡ l.i;
  marks : length l.to ≡ name_count;
  own : Own l.block.bytes.now l.x l.initial.i l.i;
  brought : Spread l.block.bytes.now l.carry l.from (Upto l.block.bytes.now l.names l.j l.initial.i l.i) l.to;
  front : Front l.from l.to l.next;
}
