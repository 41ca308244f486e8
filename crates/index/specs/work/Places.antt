-- For proofs only: where a record is, or would be.
use Rattle.std.specs.Prelude.{ℕ, ◌+◌, ◌*◌, ◌<◌, ◌≤◌, ◌≡◌, List}
use Rattle.index.specs.declared.Kind.{Kind}
use Rattle.index.specs.Block.{name_count, key, id, from, size, Of}

-- Key and id as one number: records in a part rise by it.
abbrev pub spot : List ℕ → ℕ → ℕ
spot b i = name_count * key b i + id b i

-- Record i is the one of this kind, key and id.
pub record At (b : List ℕ) (kind : Kind) (x y i : ℕ) : Type 0 where
  pub of : Of b kind i
  pub has_key : key b i ≡ x
  pub has_id : id b i ≡ y

-- There is none; it would stand before record i, or at the end of the part.
pub record Gap (b : List ℕ) (kind : Kind) (x y i : ℕ) : Type 0 where
  pub low : from b kind ≤ i
  pub high : i ≤ from b kind + size b kind
  pub before : (m : ℕ) → Of b kind m → m < i → spot b m < name_count * x + y
  pub after : (m : ℕ) → Of b kind m → i ≤ m → name_count * x + y < spot b m
