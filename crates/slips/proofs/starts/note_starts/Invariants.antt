-- `starts::note_starts` meets its contract. The loop's invariant: the records from number i on are noted.
use mathlib.Core.Path.{◌≡◌}
use lib.ListN.{length}
use Rattle.index.specs.declared.Kind.TheVariants.{Membership}
use Rattle.index.specs.Block.{name_count, size}
use Rattle.slips.specs.work.Trails.{Begins}
use Rattle.slips.proofs.starts.note_starts.Given as goal

abbrev pub invariant-loop-i : goal.invariant-loop-i
invariant-loop-i l = (l.end ≡ size l.block.bytes.now Membership) × (Begins l.block.bytes.now l.firsts l.i × (length l.firsts ≡ name_count))
