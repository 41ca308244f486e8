-- For proofs only: the parts of Good that the small functions of the test answer for.
use Rattle.std.specs.Prelude.{ℕ, ◌+◌, ◌<◌, ◌≤◌, ◌≡◌, Bool, true, false, List, length, get_or}
use Rattle.index.specs.declared.Kind.{Kind}
use Rattle.index.specs.declared.Kind.TheVariants.{Membership, Permission, Filter}
use Rattle.index.specs.Letters.{letter_count, may_have}
use Rattle.index.specs.Block.{IsName, number, place, key, id, count_at, from, records, Before}

-- A yes or no that is right about P.
abbrev pub Says : Type 0 → Bool → Type 0
Says P true = P
Says P false = P → ⊥

-- The header agrees with the parts, and the parts fit in the block.
pub record Header (b : List ℕ) : Type 0 where
  pub zero_at_6 : number b 6 ≡ 0
  pub m_offset : number b 8 ≡ place (from b Membership)
  pub p_offset : number b 10 ≡ place (from b Permission)
  pub f_offset : number b 12 ≡ place (from b Filter)
  pub end_offset : number b 14 ≡ place (records b)
  pub fits : place (records b) ≤ length b

-- Record i has a count above zero.
abbrev pub Counted : List ℕ → ℕ → Type 0
Counted b i = (k : ℕ) × (k < letter_count) × (0 < count_at b i k)

-- Record i has zero in the counts of the letters that a record of the kind may not have.
abbrev pub Allowed : List ℕ → Kind → ℕ → Type 0
Allowed b kind i = (k : ℕ) → may_have kind k ≡ false → count_at b i k ≡ 0

-- Record i by itself, as one of the kind.
pub record Record (b : List ℕ) (kind : Kind) (i : ℕ) : Type 0 where
  pub key_below : IsName (key b i)
  pub id_below : IsName (id b i)
  pub counted : Counted b i
  pub allowed : Allowed b kind i

-- The records numbered i to j - 1, as ones of the kind.
pub record Part (b : List ℕ) (kind : Kind) (i j : ℕ) : Type 0 where
  pub each : (n : ℕ) → i ≤ n → n < j → Record b kind n
  pub rising : (n : ℕ) → i ≤ n → n + 1 < j → Before b n (n + 1)

-- Every byte from j on is zero.
abbrev pub Zero : List ℕ → ℕ → Type 0
Zero b j = (t : ℕ) → j ≤ t → get_or b t 0 ≡ 0
