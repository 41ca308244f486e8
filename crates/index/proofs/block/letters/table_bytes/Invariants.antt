-- `index::block::letters::table_bytes` meets its contract. The loop's invariant: the first k bytes are those of the first k letters.
use Prim.Native.Nat.{ℕ, ◌<◌}
use mathlib.Core.Path.{◌≡◌}
use lib.ListN.{length, get_or}
use Rattle.index.specs.Letters.{letter_count, letters}
use Rattle.index.proofs.block.letters.table_bytes.Given as goal

abbrev pub invariant-loop-k : goal.invariant-loop-k
invariant-loop-k l = (length l.bytes ≡ letter_count) × ((j : ℕ) → j < l.k → get_or l.bytes j 0 ≡ get_or letters j 0)
