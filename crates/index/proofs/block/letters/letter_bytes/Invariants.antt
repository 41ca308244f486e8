-- `index::block::letters::letter_bytes` meets its contract. The loop's invariant: the first k bytes are those of the first k letters.
use Rattle.std.proofs.Common.{ℕ, ◌<◌, ◌≡◌, length, get_or, None}
use Rattle.index.specs.Letters.{letter_count}
use Rattle.index.specs.work.Reading.{byte_of}
use Rattle.index.proofs.block.letters.letter_bytes.Given as goal

abbrev pub invariant-loop-k : goal.invariant-loop-k
invariant-loop-k l = (length l.bytes ≡ letter_count) × ((j : ℕ) → j < l.k → get_or l.bytes j None ≡ byte_of l.kind j)
