-- Blocks and messages written out from their records: what the examples are about.
use Rattle.std.specs.Prelude.{ℕ, suc, ◌+◌, ◌-◌, ◌*◌, ◌/◌, ◌%◌, List, [], ◌∷◌, ◌++◌, length}
use Rattle.index.specs.Letters.{letter_count}
use Rattle.index.specs.Block.{record_length, place}
use Rattle.index.specs.Message.{half_length}
use Rattle.index.specs.Wide.{wide_header}

-- A 16-bit number in two bytes, the low one first.
abbrev pub two : ℕ → List ℕ
two n = n % 256 ∷ n / 256 ∷ []

abbrev pub twos : List ℕ → List ℕ
twos [] = []
twos (n ∷ ns) = two n ++ twos ns

abbrev pub zeros : ℕ → List ℕ
zeros ℕ.zero = []
zeros (suc n) = 0 ∷ zeros n

-- The first n letters of a mask, 1 where it has the letter and else 0; and all of them.
abbrev pub first_bits : ℕ → ℕ → List ℕ
first_bits ℕ.zero mask = []
first_bits (suc n) mask = mask % 2 ∷ first_bits n (mask / 2)

abbrev pub bits : ℕ → List ℕ
bits mask = first_bits letter_count mask

-- A record: its key, its id, and its counts in letter order.
pub record Row : Type 0 where
  pub key : ℕ
  pub id : ℕ
  pub counts : List ℕ

-- What one statement with this mask gives: each of its letters counts 1. The marker X is 256 in the mask, N 512.
abbrev pub once : ℕ → ℕ → ℕ → Row
once x y mask = record { key = x; id = y; counts = bits mask }

abbrev pub rows : List Row → List ℕ
rows [] = []
rows (r ∷ rs) = two r.key ++ (two r.id ++ (twos r.counts ++ rows rs))

-- The block with these M, P and F records and room for n records more.
abbrev pub block : List Row → List Row → List Row → ℕ → List ℕ
block ms ps fs n =
    let m = length ms in
    let p = length ps in
    let f = length fs in
    twos (m ∷ p ∷ f ∷ 0 ∷ place 0 ∷ place m ∷ place (m + p) ∷ place (m + p + f) ∷ [])
    ++ (rows ms ++ (rows ps ++ (rows fs ++ zeros (record_length * n))))

-- ---- messages

-- M-107: the kind byte of an M message with X, or with N, in its previous half, and in its new one.
abbrev pub takes_x : ℕ
takes_x = 65

abbrev pub takes_n : ℕ
takes_n = 129

abbrev pub adds_x : ℕ
adds_x = 17

abbrev pub adds_n : ℕ
adds_n = 33

abbrev pub half_bytes : ℕ → ℕ → ℕ → List ℕ
half_bytes x y mask = two x ++ (two y ++ (mask ∷ []))

-- A new statement, one withdrawn, and one that changes from the first half to the second. The kind: 1 M, 2 P, 3 F. The flags: 1 previous
-- present, 2 new present, 3 both.
abbrev pub giving : ℕ → ℕ → ℕ → ℕ → List ℕ
giving kind x y mask = kind ∷ 2 ∷ (zeros half_length ++ half_bytes x y mask)

abbrev pub withdrawing : ℕ → ℕ → ℕ → ℕ → List ℕ
withdrawing kind x y mask = kind ∷ 1 ∷ (half_bytes x y mask ++ zeros half_length)

abbrev pub moving : ℕ → List ℕ → List ℕ → List ℕ
moving kind before after = kind ∷ 3 ∷ (before ++ after)

-- ---- wide messages (M-100)

-- A half of one: its keys, its ids and its mask; and an absent one.
pub record Several : Type 0 where
  pub keys : List ℕ
  pub ids : List ℕ
  pub mask : ℕ

abbrev pub absent : Several
absent = record { keys = []; ids = []; mask = 0 }

-- "Its 16-byte header has kind, flags, four list lengths (previous keys, previous ids, new keys, new ids), two masks, one byte each, then
-- four 16-bit offsets from its first byte; the lists of 16-bit names follow in that order without gaps."
abbrev pub several : ℕ → ℕ → Several → Several → List ℕ
several kind flags previous new =
    let second = wide_header + 2 * length previous.keys in
    let third = second + 2 * length previous.ids in
    let fourth = third + 2 * length new.keys in
    kind
    ∷ flags
    ∷ length previous.keys
    ∷ length previous.ids
    ∷ length new.keys
    ∷ length new.ids
    ∷ previous.mask
    ∷ new.mask
    ∷ (twos (wide_header ∷ second ∷ third ∷ fourth ∷ [])
    ++ (twos previous.keys ++ (twos previous.ids ++ (twos new.keys ++ twos new.ids))))

-- ---- the mill's own case: R on key 9 for id 1, in a block of 40 bytes

abbrev pub nothing : List ℕ
nothing = block [] [] [] 1

-- The block in which n statements give it.
abbrev pub reads : ℕ → List ℕ
reads n = block [] (record { key = 9; id = 1; counts = 0 ∷ n ∷ zeros (letter_count - 2) } ∷ []) [] 0

abbrev pub give : List ℕ
give = giving 2 9 1 2

abbrev pub withdraw : List ℕ
withdraw = withdrawing 2 9 1 2
