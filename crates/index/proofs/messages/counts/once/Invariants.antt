-- `index::messages::counts::once` meets its contract. The loop's invariant: the first k counts are the mask's.
use Prim.Native.Nat.{ℕ, ◌<◌}
use mathlib.Core.Path.{◌≡◌}
use lib.ListN.{length, get_or}
use Rattle.index.specs.Letters.{letter_count}
use Rattle.index.specs.work.Edits.{bit}
use Rattle.index.proofs.messages.counts.once.Given as goal

abbrev pub invariant-loop-k : goal.invariant-loop-k
invariant-loop-k l = (length l.counts ≡ letter_count) × ((j : ℕ) → j < l.k → get_or l.counts j 0 ≡ bit l.mask j)
