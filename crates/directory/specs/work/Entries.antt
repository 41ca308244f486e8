-- For proofs only: how the entries of a part of a directory are written, and tested.
use Rattle.std.specs.Prelude.{ℕ, ◌+◌, ◌<◌, ◌≤◌, ◌≡◌, List, length, get_or}
use Rattle.index.specs.declared.Kind.{Kind}
use Rattle.index.specs.Block.{name_count, from, size, place, key}
use Rattle.directory.specs.Directory.{part_length, part_start, entry, BeginsAt}

-- ---- writing

-- d' is d but for the entries from a up to e.
pub record Outside (a e : ℕ) (d d' : List ℕ) : Type 0 where
  pub same_length : length d' ≡ length d
  pub before : (t : ℕ) → t < a → get_or d' t 0 ≡ get_or d t 0
  pub after : (t : ℕ) → e ≤ t → get_or d' t 0 ≡ get_or d t 0

-- The same, and these are v.
pub record Put (a e v : ℕ) (d d' : List ℕ) : Type 0 where
  pub rest : Outside a e d d'
  pub inside : (t : ℕ) → a ≤ t → t < e → get_or d' t 0 ≡ v

-- All entries of the kind are the block's.
abbrev pub Entries : List ℕ → List ℕ → Kind → Type 0
Entries b d kind = (x : ℕ) → x < part_length → BeginsAt b kind x (entry d kind x)

-- d' is d but for the entries of the kind, which are the block's.
pub record Filled (b : List ℕ) (kind : Kind) (d d' : List ℕ) : Type 0 where
  pub rest : Outside (part_start kind) (part_start kind + part_length) d d'
  pub own : Entries b d' kind

-- ---- testing

-- The first n of the entries from `at` on are not above the ones that follow them.
abbrev pub Steps : List ℕ → ℕ → ℕ → Type 0
Steps d at n = (x : ℕ) → x < n → get_or d (at + x) 0 ≤ get_or d (at + x + 1) 0

-- The entries of the part from `at` on begin with lo, never fall, and end with hi.
pub record Rises (d : List ℕ) (at lo hi : ℕ) : Type 0 where
  pub steps : Steps d at name_count
  pub first : get_or d at 0 ≡ lo
  pub last : get_or d (at + name_count) 0 ≡ hi

-- Record j lies between the entry of its key and the next one.
abbrev pub Lies : List ℕ → List ℕ → ℕ → ℕ → Type 0
Lies b d at j = (get_or d (at + key b j) 0 ≤ place j) × (place (j + 1) ≤ get_or d (at + key b j + 1) 0)

-- So does each of the records i to end - 1.
abbrev pub Stands : List ℕ → List ℕ → ℕ → ℕ → ℕ → Type 0
Stands b d at i end = (j : ℕ) → i ≤ j → j < end → Lies b d at j

-- The entries of the kind rise from the beginning of the part to its end, and its records lie between them.
pub record Right (b d : List ℕ) (kind : Kind) : Type 0 where
  pub rises : Rises d (part_start kind) (place (from b kind)) (place (from b kind + size b kind))
  pub stands : Stands b d (part_start kind) (from b kind) (from b kind + size b kind)
