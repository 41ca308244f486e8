-- `index::text::entries::counts` meets its contract. The loop: what the whole reading finds is what reading on from letter k finds, after the counts in `out`.
use mathlib.Core.Path.{◌≡◌}
use lib.ListN.{length, drop}
use Rattle.index.specs.Letters.{letter_count, letters}
use Rattle.index.specs.work.Reading.{read_counts}
use Rattle.index.proofs.laws.text.ReadSteps.{after}
use Rattle.index.proofs.text.entries.counts.Given as goal

abbrev pub invariant-loop-k : goal.invariant-loop-k
invariant-loop-k l =
    (length l.out ≡ letter_count)
    × (read_counts l.fn.kind 0 letters (drop l.initial.here.at l.text)
    ≡ after l.out l.k (read_counts l.fn.kind l.k (drop l.k letters) (drop l.here.at l.text)))
