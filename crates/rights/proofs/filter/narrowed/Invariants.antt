-- `filter::narrowed` meets its contract. The loop's invariant: the mask, narrowed by the F records of the name before i.
use Rattle.index.specs.declared.Kind.TheVariants.{Filter}
use Rattle.index.specs.Letters.{In}
use Rattle.index.specs.Block.{NetAt}
use Rattle.rights.proofs.laws.held.Sifting.{Sifted}
use Rattle.rights.proofs.filter.narrowed.Given as goal

abbrev pub invariant-loop-i : goal.invariant-loop-i
invariant-loop-i l = Sifted l.source.block.bytes.now Filter l.name (NetAt l.source.block.bytes.now) (λ k. In k l.mask) l.initial.i l.i l.left
