-- `filter::filter_of` meets its contract. The loop's invariant: what the object's own F records let through, narrowed by those of
-- the groups of the M records before i.
use Rattle.index.specs.declared.Kind.TheVariants.{Membership}
use Rattle.rights.specs.work.Lookup.{Lets, LetsBy}
use Rattle.rights.proofs.laws.held.Sifting.{Sifted}
use Rattle.rights.proofs.filter.filter_of.Given as goal

abbrev pub invariant-loop-i : goal.invariant-loop-i
invariant-loop-i l = Sifted l.source.block.bytes.now Membership l.object (LetsBy l.source.block.bytes.now) (Lets l.source.block.bytes.now l.object) l.initial.i l.i l.left
