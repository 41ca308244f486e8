-- `lookup::end_of` meets its contract: on from the first. The loop's invariant: the records passed are the name's.
use Rattle.rights.proofs.laws.walk.Looking.{Own}
use Rattle.rights.proofs.lookup.end_of.Given as goal

abbrev pub invariant-loop-end : goal.invariant-loop-end
invariant-loop-end l = Own l.block.bytes.now l.name l.from l.end
