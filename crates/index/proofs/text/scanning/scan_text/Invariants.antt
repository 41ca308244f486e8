-- `index::text::scanning::scan_text` meets its contract. The loop: laws/text/Scans, `Turn`.
use Prim.Native.Nat.{◌-◌}
use mathlib.Core.Path.{◌≡◌}
use lib.ListN.{length}
use Rattle.index.specs.Letters.{letter_count}
use Rattle.index.proofs.laws.text.Scans.{Turn}
use Rattle.index.proofs.text.scanning.scan_text.Given as goal

abbrev pub invariant-loop-name : goal.invariant-loop-name
invariant-loop-name l = (length l.out ≡ letter_count) × Turn l.text l.kind l.here.at l.least l.n

abbrev pub decreases-loop-name : goal.decreases-loop-name
decreases-loop-name l = length l.text - l.here.at
