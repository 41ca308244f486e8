-- M-106, "A directory of keys": what a directory is, and which one is a block's own. A directory is the list of its entries,
-- 16-bit numbers.
use Rattle.std.specs.Prelude.{ℕ, ◌+◌, ◌*◌, ◌<◌, ◌≤◌, ◌≡◌, List, length, get_or}
use Rattle.index.specs.declared.Kind.{Kind}
use Rattle.index.specs.declared.Kind.TheVariants.{Membership, Permission, Filter}
use Rattle.index.specs.Block.{from, size, place, key}

-- M-106: "1,025 byte offsets per part": one for each key, and one more, for x = 1024, which is above every key.
abbrev pub part_length : ℕ
part_length = 1025

-- M-106: "per part, M, P, F": there are three.
abbrev pub directory_length : ℕ
directory_length = 3 * part_length

-- Where the entries of the kind begin.
unfoldable pub part_start : Kind → ℕ
part_start Membership = 0
part_start Permission = part_length
part_start Filter = 2 * part_length

-- The entry of the kind for x.
abbrev pub entry : List ℕ → Kind → ℕ → ℕ
entry d kind x = get_or d (part_start kind + x) 0

-- Of the records lo to hi - 1, i is the first whose key is not below x: those before it have keys below x, and the others have not.
-- It is hi, where all keys are below x.
pub record Lowest (b : List ℕ) (lo hi x i : ℕ) : Type 0 where
  pub low : lo ≤ i
  pub high : i ≤ hi
  pub below : (j : ℕ) → lo ≤ j → j < i → key b j < x
  pub above : (j : ℕ) → i ≤ j → j < hi → x ≤ key b j

-- The same of the records of a kind: those of the key x start at number i, or would.
abbrev pub StartsAt : List ℕ → Kind → ℕ → ℕ → Type 0
StartsAt b kind x i = Lowest b (from b kind) (from b kind + size b kind) x i

-- M-106: "where each key's records begin or would, and the part's end": e is the byte of the block at which that record begins.
-- In a good block it is the part's end for x = 1024, which no key reaches.
unfoldable pub BeginsAt : List ℕ → Kind → ℕ → ℕ → Type 0
BeginsAt b kind x e = (i : ℕ) × StartsAt b kind x i × (e ≡ place i)

-- The directory d is "the block's own".
pub record Own (b d : List ℕ) : Type 0 where
  pub whole : length d ≡ directory_length
  pub each : (kind : Kind) (x : ℕ) → x < part_length → BeginsAt b kind x (entry d kind x)
