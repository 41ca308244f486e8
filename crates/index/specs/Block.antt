-- 01, "The block", with M-107 for its lengths. A block is the list of its bytes.
use Rattle.std.specs.Prelude.{ℕ, suc, ◌+◌, ◌-◌, ◌*◌, ◌/◌, ◌%◌, ◌^◌, ◌<◌, ◌≤◌, ◌≡◌, false, cond, ◌&&◌, ◌⊎◌, List, length, get_or, eqb, ltb}
use Rattle.std.specs.Int.Bits.{bit_and, bit_xor}
use Rattle.index.specs.declared.Kind.{Kind}
use Rattle.index.specs.declared.Kind.TheVariants.{Membership, Permission, Filter}
use Rattle.index.specs.Letters.{letter_count, right_count, may_have}

-- "Names are numbers 0 to 1023. Name 0 is the group of all resources (v-s:AllResourcesGroup)."
abbrev pub name_count : ℕ
name_count = 1024

abbrev pub greatest_name : ℕ
greatest_name = 1023

abbrev pub IsName : ℕ → Type 0
IsName n = n < name_count

-- "16-bit counts": a count is at most 65,535.
abbrev pub greatest_count : ℕ
greatest_count = 65535

-- "All numbers are little-endian": the 16-bit number at byte i.
unfoldable pub number : List ℕ → ℕ → ℕ
number b i = get_or b i 0 + 256 * get_or b (i + 1) 0

-- "The block is 16 to" so many "bytes long." M-107: "a block may have 49,168 bytes".
abbrev pub header_length : ℕ
header_length = 16

abbrev pub greatest_length : ℕ
greatest_length = 49168

unfoldable pub Sized : List ℕ → Type 0
Sized b = (header_length ≤ length b) × (length b ≤ greatest_length)

-- ---- the header

-- "M (membership): the key is a member of the group id." "P (permission): id is granted or denied rights on key." "F (filter): the filter
-- named id bounds the object or group key."

-- "the numbers of M, P and F records at bytes 0, 2, 4"
abbrev pub size : List ℕ → Kind → ℕ
size b Membership = number b 0
size b Permission = number b 2
size b Filter = number b 4

-- "each part follows the one before": records are numbered from 0 on through all three parts, M, P, F. Those of a kind
-- begin at number `from`.
abbrev pub from : List ℕ → Kind → ℕ
from b Membership = 0
from b Permission = size b Membership
from b Filter = size b Membership + size b Permission

-- How many records there are.
abbrev pub records : List ℕ → ℕ
records b = size b Membership + size b Permission + size b Filter

-- Record i is of the kind.
abbrev pub Of : List ℕ → Kind → ℕ → Type 0
Of b kind i = (from b kind ≤ i) × (i < from b kind + size b kind)

-- ---- a record

-- "key (16 bits), id (16 bits), then" the "16-bit counts in letter order." M-107: "Each record grows to 24 bytes, with counts of X and N
-- after the letters".
abbrev pub record_length : ℕ
record_length = 24

-- "The M part begins at 16": where record i begins.
abbrev pub place : ℕ → ℕ
place i = header_length + record_length * i

abbrev pub key : List ℕ → ℕ → ℕ
key b i = number b (place i)

abbrev pub id : List ℕ → ℕ → ℕ
id b i = number b (place i + 2)

-- The count of letter k in record i; a record has no other letter, so its count is 0.
unfoldable pub count_at : List ℕ → ℕ → ℕ → ℕ
count_at b i k = cond (ltb k letter_count) (number b (place i + 4 + 2 * k)) 0

-- The block has all of record i.
abbrev pub Has : List ℕ → ℕ → Type 0
Has b i = place (i + 1) ≤ length b

-- M-107: "room is (length − 16) / 24"; "rounded down"
unfoldable pub room : List ℕ → ℕ
room b = (length b - header_length) / record_length

-- "2,048 at most"
abbrev pub most_records : ℕ
most_records = (greatest_length - header_length) / record_length

-- ---- good

-- "by key then id": record i stands before record j.
unfoldable pub Before : List ℕ → ℕ → ℕ → Type 0
Before b i j = (key b i < key b j) ⊎ ((key b i ≡ key b j) × (id b i < id b j))

-- "A block is good when"
pub record Good (b : List ℕ) : Type 0 where
  -- (it is made of bytes)
  pub bytes : (j : ℕ) → get_or b j 0 < 256
  -- "the header agrees with the parts": zero at 6, the offsets of the parts at 8, 10, 12, the end at 14
  pub zero_at_6 : number b 6 ≡ 0
  pub m_offset : number b 8 ≡ place (from b Membership)
  pub p_offset : number b 10 ≡ place (from b Permission)
  pub f_offset : number b 12 ≡ place (from b Filter)
  pub end_offset : number b 14 ≡ place (records b)
  -- "the parts fit in the block"
  pub fits : place (records b) ≤ length b
  -- "keys and ids are below 1024"
  pub keys : (i : ℕ) → i < records b → IsName (key b i)
  pub ids : (i : ℕ) → i < records b → IsName (id b i)
  -- "records in each part rise strictly by key then id"
  pub rising : (kind : Kind) (i : ℕ) → Of b kind i → Of b kind (i + 1) → Before b i (i + 1)
  -- "each record has a count above zero". M-107: "A record stays while any of ten counts is above zero".
  pub counted : (i : ℕ) → i < records b → (k : ℕ) × (k < letter_count) × (0 < count_at b i k)
  -- "M and F records have zero in the four small-letter counts". M-107: "P and F records have neither, and in a good block those two
  -- counts of theirs are zero".
  pub allowed : (kind : Kind) (i : ℕ) → Of b kind i → (k : ℕ) → may_have kind k ≡ false → count_at b i k ≡ 0
  -- "every byte from the end on is zero"
  pub tail : (j : ℕ) → place (records b) ≤ j → get_or b j 0 ≡ 0

-- ---- counts

-- Letter k of the first of the n records from number i on with this key and id; 0 where none has them.
unfoldable pub count_from : List ℕ → ℕ → ℕ → ℕ → ℕ → ℕ → ℕ
count_from b x y k i ℕ.zero = 0
count_from b x y k i (suc n) = cond (eqb (key b i) x && eqb (id b i) y) (count_at b i k) (count_from b x y k (i + 1) n)

-- "each count, 0 for a missing record": letter k in the record of this kind with the key x and the id y.
unfoldable pub count : List ℕ → Kind → ℕ → ℕ → ℕ → ℕ
count b kind x y k = count_from b x y k (from b kind) (size b kind)

-- ---- the net mask of a record (01, "The rights")

-- "The net mask of a record: its capital letters with a count above zero, less those whose small letter has a count above
-- zero." Right k is in the net mask of record i: its small letter is the one four places on.
abbrev pub NetAt : List ℕ → ℕ → ℕ → Type 0
NetAt b i k = (0 < count_at b i k) × (count_at b i (k + right_count) ≡ 0)

-- M-112: "a P record counts its small letter above zero": record i counts that of right k, whatever it counts of the capital one.
abbrev pub DeniedAt : List ℕ → ℕ → ℕ → Type 0
DeniedAt b i k = 0 < count_at b i (k + right_count)

-- "For one statement this equals 000's formula." One statement with this mask left record i: each letter of the mask stands
-- in it once.
abbrev pub OneStatement : List ℕ → ℕ → ℕ → Type 0
OneStatement b i mask = (k : ℕ) → k < letter_count → count_at b i k ≡ mask / 2 ^ k % 2

-- 000's formula, with 000's own numbers. A mask without small letters stays as it is. Else its small letters (240 is the mask of
-- all four) are brought four places down and turned over, and of what that gives the letters of the mask are left.
abbrev pub formula : ℕ → ℕ
formula mask = cond (ltb 15 mask) (bit_and (bit_xor (bit_and mask 240 / 2 ^ 4) 15) mask) mask
