-- For proofs only: which records are of which names, and what the F records of a name let through.
use Rattle.std.specs.Prelude.{ℕ, ◌+◌, ◌<◌, ◌≤◌, ◌≡◌, List, ◌↔◌}
use Rattle.index.specs.declared.Kind.{Kind}
use Rattle.index.specs.declared.Kind.TheVariants.{Permission, Filter}
use Rattle.index.specs.Block.{name_count, Of, key, id}
use Rattle.directory.specs.declared.Span.{Span}
use Rattle.rights.specs.Groups.{Member}
use Rattle.rights.specs.Held.{Is, Net}

-- Keys and ids, of 16 bits, are below this number.
abbrev pub wide : ℕ
wide = 65536

-- r is the key of record i, if it is before the end, or else a number that is below no name.
pub record KeyBefore (b : List ℕ) (end i r : ℕ) : Type 0 where
  pub before : i < end → r ≡ key b i
  pub past : end ≤ i → r + 1 ≡ wide
  pub small : r < wide

-- The records of the kind with the key x are those of the span.
abbrev pub Keyed : List ℕ → Kind → ℕ → Span → Type 0
Keyed b kind x span = (i : ℕ) → ((span.from ≤ i) × (i < span.end)) ↔ (Of b kind i × (key b i ≡ x))

-- The keys of the P records are names of the span.
pub record KeysWithin (b : List ℕ) (span : Span) : Type 0 where
  pub names : span.end ≤ name_count
  pub within : (i : ℕ) → Of b Permission i → (span.from ≤ key b i) × (key b i < span.end)

-- P holds of each record of the kind with the key x.
abbrev pub EachOf : List ℕ → Kind → ℕ → (ℕ → Type 0) → Type 0
EachOf b kind x P = (i : ℕ) → Of b kind i → key b i ≡ x → P i

-- Right k is in the net mask of every F record of the name x.
abbrev pub Lets : List ℕ → ℕ → ℕ → Type 0
Lets b x k = (y : ℕ) → Is b Filter x y → Net b Filter x y k

-- It is in the net mask of every F record of the group of M record i, if that is a membership.
abbrev pub LetsBy : List ℕ → ℕ → ℕ → Type 0
LetsBy b i k = Member b (key b i) (id b i) → Lets b (id b i) k
