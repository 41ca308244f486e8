-- For proofs only: what is written, a text into a buffer and a set into a block.
use Rattle.std.specs.Prelude.{ℕ, suc, ◌+◌, ◌<◌, ◌≡◌, List, [], ◌∷◌, length, get_or}
use Rattle.std.proofs.lemmas.List.Edits.{sets}
use Rattle.index.specs.Letters.{letter_count, letters}
use Rattle.index.specs.Block.{place, key}
use Rattle.index.specs.Text.{Entry, entry_at}
use Rattle.index.specs.work.Bytes.{Inside}

-- The bytes t stand in the buffer from byte `at` on, as far as it reaches; the others are as they were. They end at r.
pub record Puts (at : ℕ) (t out : List ℕ) (r : ℕ) (out' : List ℕ) : Type 0 where
  pub ends : r ≡ at + length t
  pub buffer : out' ≡ sets out at t

-- The n records from number i on, as records of a set.
abbrev pub entries_from : List ℕ → ℕ → ℕ → List Entry
entries_from b i ℕ.zero = []
entries_from b i (suc n) = entry_at b i ∷ entries_from b (i + 1) n

-- Record i of the block is the record e of the set with the key x.
pub record Stands (b : List ℕ) (x i : ℕ) (e : Entry) : Type 0 where
  pub has_key : key b i ≡ x
  pub is : entry_at b i ≡ e

-- b' is b with this record at number i.
pub record Entered (x i : ℕ) (e : Entry) (b b' : List ℕ) : Type 0 where
  pub stands : Stands b' x i e
  pub rest : Inside (place i) (place (i + 1)) b b'

-- Record j of a set, where it has one.
abbrev pub entry_of : List Entry → ℕ → Entry
entry_of es j = get_or es j (record { id = 0; counts = [] })

-- b' is b with the first n records of a set, whose key is x, from record i on.
pub record Filled (x i : ℕ) (es : List Entry) (n : ℕ) (b b' : List ℕ) : Type 0 where
  pub stand : (j : ℕ) → j < n → Stands b' x (i + j) (entry_of es j)
  pub rest : Inside (place i) (place (i + n)) b b'

-- The bytes of all letters, in letter order.
pub record TableBytes (bytes : List ℕ) : Type 0 where
  pub ten : length bytes ≡ letter_count
  pub each : (k : ℕ) → k < letter_count → get_or bytes k 0 ≡ get_or letters k 0
