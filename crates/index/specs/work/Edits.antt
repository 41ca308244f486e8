-- For proofs only: what the functions on records and halves do.
use Rattle.std.specs.Prelude.{ℕ, suc, ◌+◌, ◌*◌, ◌/◌, ◌%◌, ◌^◌, ◌<◌, ◌≤◌, ◌≡◌, Bool, true, false, cond, List, ◌++◌, ◌↔◌, length, get_or, Result, Ok, Err}
use Rattle.std.specs.Int.Bits.{bit_or}
use Rattle.index.specs.declared.Kind.{Kind}
use Rattle.index.specs.declared.Kind.TheVariants.{Membership, Permission, Filter}
use Rattle.index.specs.Letters.{letter_count, right_count, marker_x, marker_n, may_have, In}
use Rattle.index.specs.Block.{greatest_count, IsName, header_length, greatest_length, record_length, place, count_at, from, size, records, key, id, Of, Good}
use Rattle.index.specs.work.Bytes.{Inside}
use Rattle.index.specs.work.Checks.{Header}
use Rattle.index.specs.Numbers.{First, Each}
use Rattle.index.specs.Message.{Half, Masked, Change, Changed, own_count, change_needs, packed_half, packed_change}
use Rattle.index.specs.Message.Change.{take, add}
use Rattle.index.specs.Wide.{Sent, previous_of, new_of, FormedOf}
use Rattle.index.specs.work.Places.{spot, At, Gap}

-- r is the mask of the letters that a record of the kind may have.
abbrev pub Letters : Kind → ℕ → Type 0
Letters kind r = (k : ℕ) → In k r ↔ (may_have kind k ≡ true)

-- The counts of the four letters from k on, as one number.
abbrev pub four_at : List ℕ → ℕ → ℕ → ℕ
four_at b i k =
    count_at b i k + 65536 * (count_at b i (k + 1) + 65536 * (count_at b i (k + 2) + 65536 * count_at b i (k + 3)))

-- Those of the two markers.
abbrev pub two_at : List ℕ → ℕ → ℕ
two_at b i = count_at b i marker_x + 65536 * count_at b i marker_n

-- The counts of the small letters, and those of the markers, where record i may not have them as one of the kind.
abbrev pub small_at : List ℕ → Kind → ℕ → ℕ
small_at b kind i = cond (may_have kind right_count) 0 (four_at b i right_count)

abbrev pub markers_at : List ℕ → Kind → ℕ → ℕ
markers_at b kind i = cond (may_have kind marker_x) 0 (two_at b i)

-- The counts that it may not have, joined.
abbrev pub barred_at : List ℕ → Kind → ℕ → ℕ
barred_at b kind i = bit_or (small_at b kind i) (markers_at b kind i)

-- The records of the kind stand below `want` before number r, and not from there on.
pub record Lowest (b : List ℕ) (kind : Kind) (want r : ℕ) : Type 0 where
  pub low : from b kind ≤ r
  pub high : r ≤ from b kind + size b kind
  pub below : (i : ℕ) → Of b kind i → i < r → spot b i < want
  pub above : (i : ℕ) → Of b kind i → r ≤ i → want ≤ spot b i

-- The record of the kind with this key and id is number i, or it would be inserted as that.
abbrev pub Finds : List ℕ → Kind → ℕ → ℕ → Result ℕ ℕ → Type 0
Finds b kind x y (Ok i) = At b kind x y i
Finds b kind x y (Err i) = Gap b kind x y i

-- ---- bytes and the header

-- b' is b with the byte f u at each u from lo to hi - 1.
pub record Overwritten (lo hi : ℕ) (f : ℕ → ℕ) (b b' : List ℕ) : Type 0 where
  pub rest : Inside lo hi b b'
  pub is : (u : ℕ) → lo ≤ u → u < hi → get_or b' u 0 ≡ f u

-- The sizes of the three parts.
abbrev pub three : ℕ → ℕ → ℕ → Kind → ℕ
three m p f Membership = m
three m p f Permission = p
three m p f Filter = f

-- b' is b with the header of m, p and f records.
pub record Headed (m p f : ℕ) (b b' : List ℕ) : Type 0 where
  pub rest : Inside 0 header_length b b'
  pub sizes : (K : Kind) → size b' K ≡ three m p f K
  pub header : place (m + p + f) ≤ length b → Header b'

-- b' is b with the header where the kind has n records.
pub record Resized (kind : Kind) (n : ℕ) (b b' : List ℕ) : Type 0 where
  pub rest : Inside 0 header_length b b'
  pub own : size b' kind ≡ n
  pub other : (K : Kind) → (K ≡ kind → ⊥) → size b' K ≡ size b K
  pub header : Header b'

-- A good block has room for m records in the place of the n of the kind from number j on.
pub record Opens (kind : Kind) (j n m : ℕ) (b : List ℕ) : Type 0 where
  pub short : length b ≤ greatest_length
  pub good : Good b
  pub low : from b kind ≤ j
  pub high : j + n ≤ from b kind + size b kind
  pub inside : j + n ≤ records b
  pub room : place (records b + m) ≤ length b + record_length * n

-- ---- counts

-- 1 where letter k is in the mask, else 0.
abbrev pub bit : ℕ → ℕ → ℕ
bit mask k = mask / 2 ^ k % 2

-- Each count of record i can do without one for each letter of `less` and with one for each letter of `more`.
abbrev pub Allows : List ℕ → ℕ → ℕ → ℕ → Type 0
Allows b i less more =
    (k : ℕ) → k < letter_count
    → (bit less k ≤ count_at b i k + bit more k) × (count_at b i k + bit more k ≤ greatest_count + bit less k)

-- A count of record i is above zero without one for each letter of the mask.
abbrev pub Left : List ℕ → ℕ → ℕ → Type 0
Left b i mask = (k : ℕ) × (k < letter_count) × (bit mask k < count_at b i k)

-- In record i each letter of `less` went down by one, and each letter of `more` up.
pub record Recounted (i less more : ℕ) (b b' : List ℕ) : Type 0 where
  pub rest : Inside (place i + 4) (place (i + 1)) b b'
  pub counts : (k : ℕ) → k < letter_count → count_at b' i k + bit less k ≡ count_at b i k + bit more k

-- Record i of b' has the key x, the id y and each letter of the mask once; the rest is as in b.
pub record NewRecord (i x y mask : ℕ) (b b' : List ℕ) : Type 0 where
  pub rest : Inside (place i) (place (i + 1)) b b'
  pub new_key : key b' i ≡ x
  pub new_id : id b' i ≡ y
  pub counts : (k : ℕ) → k < letter_count → count_at b' i k ≡ bit mask k

-- ---- halves

abbrev pub half : Kind → ℕ → ℕ → ℕ → Half
half kind x y mask = record { kind = kind; key = x; id = y; mask = mask }

-- The tests of the block and of the half have passed.
pub record Ready (h : Half) (b : List ℕ) : Type 0 where
  pub short : length b ≤ greatest_length
  pub good : Good b
  pub key_below : IsName h.key
  pub id_below : IsName h.id
  pub masked : Masked h

-- Where the record of a half taken away is gone, there is room again.
abbrev pub Freed : Change → List ℕ → List ℕ → Type 0
Freed (take h) b b' = ((k : ℕ) → k < letter_count → own_count b' h k ≡ 0) → records b' < records b
Freed (add h) b b' = Unit {0}

-- One change by itself gives the number r and the block b'.
pub record Step (c : Change) (b : List ℕ) (r : ℕ) (b' : List ℕ) : Type 0 where
  pub outcome : First {O = ℕ × List ℕ} (λ n. (n, b)) (change_needs c b) (λ o. (o.0 ≡ 0) × Changed c b o.1) (r, b')
  pub freed : r ≡ 0 → Freed c b b'

-- ---- a list of changes

abbrev pub change_of : Bool → Half → Change
change_of true h = add h
change_of false h = take h

-- The tests have passed, of the block and of each change in the list.
abbrev pub Prepared : List ℕ → List ℕ → Type 0
Prepared cs b = (i : ℕ) → i < length cs → Ready (packed_half (get_or cs i 0)) b

-- The first i changes of the list, one after the other, lead from b₀ to b.
pub data Went (b₀ cs : List ℕ) : ℕ → List ℕ → Type 0 where
  nothing : Went b₀ cs 0 b₀
  next : {i : ℕ} {b b' : List ℕ} → Went b₀ cs i b → Ready (packed_half (get_or cs i 0)) b → Step (packed_change (get_or cs i 0)) b 0 b'
      → Went b₀ cs (suc i) b'

-- The tests of the message have passed, of the block too.
pub record Tested (b : List ℕ) (s : Sent) : Type 0 where
  pub formed : FormedOf s
  pub ready : Each (λ h. Ready h b) (previous_of s ++ new_of s)
