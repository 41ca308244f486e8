-- For proofs only: what the small functions do to the bytes of a block.
use Rattle.std.specs.Prelude.{ℕ, ◌+◌, ◌*◌, ◌<◌, ◌≤◌, ◌≡◌, List, length, get_or}
use Rattle.index.specs.declared.Kind.{Kind}
use Rattle.index.specs.Block.{header_length, number, size, from, Of, place}
use Rattle.index.specs.work.Places.{spot}
use Rattle.index.specs.work.Checks.{Header, Record}

-- r is the 16-bit number n.
pub record Num (n r : ℕ) : Type 0 where
  pub is : r ≡ n
  pub small : r < 65536

-- r is two 16-bit numbers as one, `low` in its low half and `high` in its high half.
pub record Pair (low high r : ℕ) : Type 0 where
  pub is : r ≡ low + 65536 * high
  pub low_small : low < 65536
  pub high_small : high < 65536

-- b' is as long as b, and the same but for the bytes lo to hi - 1.
pub record Inside (lo hi : ℕ) (b b' : List ℕ) : Type 0 where
  pub same_length : length b' ≡ length b
  pub below : (t : ℕ) → t < lo → get_or b' t 0 ≡ get_or b t 0
  pub above : (t : ℕ) → hi ≤ t → get_or b' t 0 ≡ get_or b t 0

-- b' is b with the number n at byte i.
pub record Put (i n : ℕ) (b b' : List ℕ) : Type 0 where
  pub here : number b' i ≡ n
  pub rest : Inside i (i + 2) b b'

-- b' is b with four numbers, one after the other from byte i on.
pub record Four (i w x y z : ℕ) (b b' : List ℕ) : Type 0 where
  pub rest : Inside i (i + 8) b b'
  pub first : number b' i ≡ w
  pub second : number b' (i + 2) ≡ x
  pub third : number b' (i + 4) ≡ y
  pub fourth : number b' (i + 6) ≡ z

-- What stood at byte p and after it stands at byte q and after it, what stood before both is as it was.
pub record Shifted (p q : ℕ) (b b' : List ℕ) : Type 0 where
  pub same_length : length b' ≡ length b
  pub below : (t : ℕ) → t < p → t < q → get_or b' t 0 ≡ get_or b t 0
  pub moved : (t : ℕ) → get_or b' (q + t) 0 ≡ get_or b (p + t) 0

-- By place and header, b' is b with m records in the place of the n records of this kind from number j on.
pub record Spliced (kind : Kind) (j n m : ℕ) (b b' : List ℕ) : Type 0 where
  pub same_length : length b' ≡ length b
  pub below : (t : ℕ) → header_length ≤ t → t < place j → get_or b' t 0 ≡ get_or b t 0
  pub moved : (t : ℕ) → get_or b' (place (j + m) + t) 0 ≡ get_or b (place (j + n) + t) 0
  pub own : size b' kind + n ≡ size b kind + m
  pub other : (K : Kind) → (K ≡ kind → ⊥) → size b' K ≡ size b K
  pub header : Header b'

-- The n records go from b, where they are of the kind, and the m that come in b' are records of the kind that rise, above
-- those before and below those after.
pub record Fits (kind : Kind) (j n m : ℕ) (b b' : List ℕ) : Type 0 where
  pub low : from b kind ≤ j
  pub high : j + n ≤ from b kind + size b kind
  pub each : (i : ℕ) → j ≤ i → i < j + m → Record b' kind i
  pub rising : (i : ℕ) → j ≤ i → i + 1 < j + m → spot b' i < spot b' (i + 1)
  pub lower : (i i' : ℕ) → Of b kind i → i < j → j ≤ i' → i' < j + m → spot b i < spot b' i'
  pub upper : (i i' : ℕ) → Of b kind i → j + n ≤ i → j ≤ i' → i' < j + m → spot b' i' < spot b i
