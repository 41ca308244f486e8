-- 01, "The message", and its steps, with M-107 for the markers. A message is the list of its bytes.
use Rattle.std.specs.Prelude.{ℕ, ◌+◌, ◌-◌, ◌*◌, ◌<◌, ◌≤◌, ◌/◌, ◌%◌, ◌^◌, ◌≡◌, Bool, true, false, cond, ◌&&◌, List, [], ◌∷◌, ◌++◌, map, ◌⊎◌, length, get_or, eqb, Result, Ok, Err}
use Rattle.index.specs.declared.Kind.{Kind}
use Rattle.index.specs.declared.refusals.Refusal.{Refusal}
use Rattle.index.specs.declared.refusals.Refusal.TheVariants.{Form}
use Rattle.index.specs.declared.Kind.TheVariants.{Membership, Permission, Filter}
use Rattle.index.specs.Letters.{letter_count, may_have, In}
use Rattle.index.specs.Numbers.{First}
use Rattle.index.specs.Block.{greatest_count, IsName, number, Good, count, records, room}

-- "kind (1 M, 2 P, 3 F)"
unfoldable pub IsKind : ℕ → Type 0
IsKind n = (1 ≤ n) × (n ≤ 3)

unfoldable pub kind_of : ℕ → Kind
kind_of n = cond (eqb n 1) Membership (cond (eqb n 2) Permission Filter)

-- What a number is read as: the kind that it stands for, or the refusal 3.
unfoldable pub KindFrom : ℕ → Result Kind Refusal → Type 0
KindFrom n (Ok kind) = IsKind n × (kind ≡ kind_of n)
KindFrom n (Err e) = (IsKind n → ⊥) × (e ≡ Form)

unfoldable pub kind_number : Kind → ℕ
kind_number Membership = 1
kind_number Permission = 2
kind_number Filter = 3

-- A half, with the kind of its message: a record, and the letters in it that go down or up by one.
pub record Half : Type 0 where
  pub kind : Kind
  pub key : ℕ
  pub id : ℕ
  pub mask : ℕ

-- ---- its bytes

-- "12 bytes: kind (1 M, 2 P, 3 F), flags (1 previous present, 2 new present, 3 both), then the previous and the new half, 5
-- bytes each: key (2), id (2), mask (1)." Half 0 is the previous one, half 1 the new one.
abbrev pub message_length : ℕ
message_length = 12

abbrev pub half_count : ℕ
half_count = 2

abbrev pub half_length : ℕ
half_length = 5

-- Its first two bytes. M-107: "in the kind byte, X is bit 6 and N bit 7 for the previous half, bits 4 and 5 for the new". The kind is
-- the low four bits.
unfoldable pub kind_in : List ℕ → ℕ
kind_in m = get_or m 0 0 % 16

unfoldable pub flags : List ℕ → ℕ
flags m = get_or m 1 0

-- "flags (1 previous present, 2 new present, 3 both)": half h is present.
unfoldable pub present : List ℕ → ℕ → Bool
present m h = eqb (flags m / 2 ^ h % 2) 1

-- The markers of half h: 0 for none, 1 for X, 2 for N, 3 for both.
unfoldable pub markers : List ℕ → ℕ → ℕ
markers m h = get_or m 0 0 / 2 ^ (6 - 2 * h) % 4

-- Where half h begins.
abbrev pub half_place : ℕ → ℕ
half_place h = 2 + half_length * h

-- M-107: "Markers are taken and added with the letters": the mask of a half is its mask byte, and 256 for X, 512 for N.
abbrev pub marker_mask : ℕ
marker_mask = 256

unfoldable pub mask_with : List ℕ → ℕ → ℕ → ℕ
mask_with m h byte = byte + marker_mask * markers m h

-- "key (2), id (2), mask (1)": half h as its bytes have it, with the kind of the message.
unfoldable pub half_at : List ℕ → ℕ → Half
half_at m h =
    let i = half_place h in
    record {
      kind = kind_of (kind_in m);
      key = number m i;
      id = number m (i + 2);
      mask = mask_with m h (get_or m (i + 4) 0);
    }

-- Half h, if it is present, or none; so the previous half or none, and the new half or none.
unfoldable pub halves : List ℕ → ℕ → List Half
halves m h = cond (present m h) (half_at m h ∷ []) []

abbrev pub previous : List ℕ → List Half
previous m = halves m 0

abbrev pub new : List ℕ → List Half
new m = halves m 1

-- "An absent half is five zero bytes."
unfoldable pub Blank : List ℕ → ℕ → Type 0
Blank m h = (j : ℕ) → j < half_length → get_or m (half_place h + j) 0 ≡ 0

-- M-107: "both markers in one half, a marker on an absent half or on kinds 2 and 3 is 3". The markers that a half may have: none, or one
-- if it is present and of kind 1.
unfoldable pub Marked : ℕ → Kind → Bool → Type 0
Marked n kind there = (n ≡ 0) ⊎ ((n < 3) × (kind ≡ Membership) × (there ≡ true))

-- What 3 asks of the first two bytes.
pub record Begun (m : List ℕ) : Type 0 where
  pub kind : IsKind (kind_in m)
  pub some_half : (1 ≤ flags m) × (flags m ≤ 3)
  pub marked : (h : ℕ) → h < half_count → Marked (markers m h) (kind_of (kind_in m)) (present m h)

pub record WellFormed (m : List ℕ) : Type 0 where
  pub twelve : length m ≡ message_length
  pub begun : Begun m
  pub absent : (h : ℕ) → h < half_count → present m h ≡ false → Blank m h

-- "a name above 1023"
unfoldable pub Named : Half → Type 0
Named h = IsName h.key × IsName h.id

-- "mask 0, or above 15 for M or F": without its markers the mask is not 0, and the kind may have each of its letters.
unfoldable pub Masked : Half → Type 0
Masked h = (0 < h.mask % marker_mask) × ((k : ℕ) → In k h.mask → may_have h.kind k ≡ true)

-- ---- the steps

pub data Change : Type 0 where
  take : Half → Change
  add : Half → Change

-- "first take away the previous half", "then add the new half"
unfoldable pub changes : List Half → List Half → List Change
changes previous new = map take previous ++ map add new

-- "each letter in its mask": 1 where the half has letter k of this record, else 0.
unfoldable pub moves : Half → Kind → ℕ → ℕ → ℕ → ℕ
moves h kind x y k =
    cond (eqb (kind_number h.kind) (kind_number kind) && (eqb h.key x && eqb h.id y)) (h.mask / 2 ^ k % 2) 0

-- "each letter in its mask goes down by one"
unfoldable pub taken : Change → Kind → ℕ → ℕ → ℕ → ℕ
taken (take h) kind x y k = moves h kind x y k
taken (add h) kind x y k = 0

-- "each letter goes up by one"
unfoldable pub added : Change → Kind → ℕ → ℕ → ℕ → ℕ
added (take h) kind x y k = 0
added (add h) kind x y k = moves h kind x y k

-- The block b becomes b', a good block again, so that "a record whose counts are all zero is removed" and a new one stands
-- "in its place". There is one such block only (laws/block/Canonical).
pub record Changed (c : Change) (b b' : List ℕ) : Type 0 where
  pub good : Good b'
  pub same_length : length b' ≡ length b
  pub counts : (kind : Kind) (x y k : ℕ) → k < letter_count
      → count b' kind x y k + taken c kind x y k ≡ count b kind x y k + added c kind x y k

-- Letter k of the half's record in the block.
unfoldable pub own_count : List ℕ → Half → ℕ → ℕ
own_count b h k = count b h.kind h.key h.id k

-- 6: "a letter of the previous half has count 0 or no record"; 7: "a letter to add stands at 65,535"; 8: "the records do not
-- fit", where the record is not there already. M-107: "a marker with nothing to take is 6, at 65,535 is 7".
unfoldable pub change_needs : Change → List ℕ → List (ℕ × Type 0)
change_needs (take h) b = (6, (k : ℕ) → k < letter_count → In k h.mask → 0 < own_count b h k) ∷ []
change_needs (add h) b =
    (7, (k : ℕ) → k < letter_count → In k h.mask → own_count b h k < greatest_count)
    ∷ (8, ((k : ℕ) × (k < letter_count) × (0 < own_count b h k)) ⊎ (records b < room b)) ∷ []

-- The changes, one after the other, on the block b. A refusal gives back b₀, the block as it came: "no lent byte changes".
unfoldable pub Carried : List ℕ → List Change → List ℕ → (ℕ × List ℕ) → Type 0
Carried b₀ [] b o = o ≡ (0, b)
Carried b₀ (c ∷ cs) b o =
    First (λ n. (n, b₀)) (change_needs c b) (λ p. (b₁ : List ℕ) × Changed c b b₁ × Carried b₀ cs b₁ p) o

-- ---- a list of changes as 64-bit numbers, one for each change: what a crate above hands over

-- From the low end: 0 to take the half away or 1 to add it, in one bit; then its mask, with the markers, its id and its key, 16 bits each;
-- then the number of its kind.
unfoldable pub packed : Bool → ℕ → ℕ → ℕ → ℕ → ℕ
packed adds kind x y mask = cond adds 1 0 + 2 * (mask + 65536 * (y + 65536 * (x + 65536 * kind)))

unfoldable pub packed_kind : ℕ → ℕ
packed_kind n = n / 2 / 65536 / 65536 / 65536

unfoldable pub packed_half : ℕ → Half
packed_half n =
    record {
      kind = kind_of (packed_kind n);
      key = n / 2 / 65536 / 65536 % 65536;
      id = n / 2 / 65536 % 65536;
      mask = n / 2 % 65536;
    }

-- What 3 asks of it: its kind, and its markers, as those of a present half.
unfoldable pub PackedWell : ℕ → Type 0
PackedWell n = IsKind (packed_kind n) × Marked ((packed_half n).mask / marker_mask) (kind_of (packed_kind n)) true

unfoldable pub packed_change : ℕ → Change
packed_change n = cond (eqb (n % 2) 0) (take (packed_half n)) (add (packed_half n))

abbrev pub packed_changes : List ℕ → List Change
packed_changes cs = map packed_change cs
