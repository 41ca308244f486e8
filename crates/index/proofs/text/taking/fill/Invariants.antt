-- `index::text::taking::fill` meets its contract. The loop: laws/text/Entering, `Taking`.
use mathlib.Core.Path.{◌≡◌}
use mathlib.Core.List.{List}
use lib.ListN.{length}
use Rattle.index.specs.Letters.{letter_count}
use Rattle.index.specs.Text.{Entry, Writes}
use Rattle.index.proofs.laws.text.Entering.{Taking}
use Rattle.index.proofs.text.taking.fill.Given as goal

abbrev pub invariant-loop-i : goal.invariant-loop-i
invariant-loop-i l =
    (length l.counts ≡ letter_count)
    × (length l.b ≡ length l.initial.b)
    × ((es : List Entry) → Writes l.kind es l.text → Taking l.key l.first l.text l.kind l.initial.b l.b l.here.at l.i es)
