-- For proofs only: what the test of a part sees of its records.
use Rattle.std.specs.Prelude.{ℕ, ◌+◌, ◌*◌, ◌/◌, ◌%◌, ◌<◌, ◌≤◌, ◌≡◌, List}
use Rattle.std.specs.Int.Bits.{bit_or}
use Rattle.index.specs.declared.Kind.{Kind}
use Rattle.index.specs.declared.block.checks.Sight.{Sight}
use Rattle.index.specs.Block.{IsName, key, id}
use Rattle.index.specs.work.Checks.{Counted}
use Rattle.index.specs.work.Edits.{barred_at}

-- Key and id of record i as one number, the key in the high half.
abbrev pub rank : List ℕ → ℕ → ℕ
rank b i = 65536 * key b i + id b i

-- Record i has the least key and id or higher ones, and a count above zero.
pub record Follows (b : List ℕ) (i least : ℕ) : Type 0 where
  pub high : least ≤ rank b i
  pub counted : Counted b i

-- What was seen, and record i of the kind.
pub record SeesMore (b : List ℕ) (kind : Kind) (i : ℕ) (old new : Sight) : Type 0 where
  pub id_small : id b i < 65536
  pub least : new.least ≡ rank b i + 1
  pub names : new.names ≡ bit_or old.names (rank b i)
  pub barred : new.barred ≡ bit_or old.barred (barred_at b kind i)

-- All keys and ids that were seen are names, and no record has a count that it may not have.
pub record Fair (sight : Sight) : Type 0 where
  pub none_barred : sight.barred ≡ 0
  pub keys : IsName (sight.names / 65536)
  pub ids : IsName (sight.names % 65536)
