-- The search by halves keeps the place between lo and hi.
use Prim.Native.Nat.{◌-◌}
use Rattle.index.proofs.laws.block.Finding.{Between}
use Rattle.index.proofs.block.good.GoodBlock.place_of.Given as goal

abbrev pub invariant-loop-lo : goal.invariant-loop-lo
invariant-loop-lo l = Between l.self.bytes.now l.want l.initial.lo l.initial.hi l.lo l.hi

abbrev pub decreases-loop-lo : goal.decreases-loop-lo
decreases-loop-lo l = l.hi - l.lo
