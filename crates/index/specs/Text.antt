-- 01, "The text of a set", and M-101 for the place of a wrong text. A set is the list of its records; a text is the list of its
-- bytes.
use Rattle.std.specs.Prelude.{ℕ, suc, ◌+◌, ◌/◌, ◌%◌, ◌<◌, ◌≤◌, ◌≡◌, false, cond, List, [], ◌∷◌, ◌++◌, length, get_or, take, eqb, ltb}
use Rattle.index.specs.declared.Kind.{Kind}
use Rattle.index.specs.Letters.{letter_count, letters, may_have}
use Rattle.index.specs.Block.{greatest_count, IsName, size, from, key, id, count_at, Good, count}

-- One record of a set: its id, and its counts in letter order.
pub record Entry : Type 0 where
  pub id : ℕ
  pub counts : List ℕ

-- ---- what a set is written as

-- The digits of n; where it has more than d, the last d. The byte of the digit 0 is 48.
unfoldable pub digits_of : ℕ → ℕ → List ℕ
digits_of ℕ.zero n = []
digits_of (suc d) n = cond (ltb n 10) ((48 + n) ∷ []) (digits_of d (n / 10) ++ ((48 + n % 10) ∷ []))

-- A number of 64 bits has at most 20 digits.
abbrev pub most_digits : ℕ
most_digits = 20

-- "in decimal without leading zeros"
unfoldable pub decimal : ℕ → List ℕ
decimal n = digits_of most_digits n

-- "each letter with a count above zero in letter order, followed by the count in decimal if it is 2 or more"
unfoldable pub piece_of : ℕ → ℕ → List ℕ
piece_of byte ℕ.zero = []
piece_of byte (suc ℕ.zero) = byte ∷ []
piece_of byte (suc (suc n)) = byte ∷ decimal (suc (suc n))

-- "in letter order"
unfoldable pub pieces_of : List ℕ → List ℕ → List ℕ
pieces_of [] cs = []
pieces_of (l ∷ ls) [] = []
pieces_of (l ∷ ls) (c ∷ cs) = piece_of l c ++ pieces_of ls cs

-- "id in decimal without leading zeros, `;`, then each letter": the byte of `;` is 59.
unfoldable pub entry_text : Entry → List ℕ
entry_text e = decimal e.id ++ (59 ∷ pieces_of letters e.counts)

-- "Records are joined by `;`, with none at the end. An empty set is the empty text."
unfoldable pub text_of : List Entry → List ℕ
text_of [] = []
text_of (e ∷ []) = entry_text e
text_of (e ∷ f ∷ es) = entry_text e ++ (59 ∷ text_of (f ∷ es))

-- ---- the sets of a block

-- The counts of the n letters from letter k on in record i.
unfoldable pub counts_from : List ℕ → ℕ → ℕ → ℕ → List ℕ
counts_from b i k ℕ.zero = []
counts_from b i k (suc n) = count_at b i k ∷ counts_from b i (k + 1) n

-- The counts of record i, in letter order.
unfoldable pub counts_at : List ℕ → ℕ → List ℕ
counts_at b i = counts_from b i 0 letter_count

abbrev pub entry_at : List ℕ → ℕ → Entry
entry_at b i = record { id = id b i; counts = counts_at b i }

-- Those of the n records from number i on that have the key x.
unfoldable pub set_from : List ℕ → ℕ → ℕ → ℕ → List Entry
set_from b x i ℕ.zero = []
set_from b x i (suc n) = cond (eqb (key b i) x) (entry_at b i ∷ set_from b x (i + 1) n) (set_from b x (i + 1) n)

-- "All records of one kind and key, ids rising", as they stand in the block.
unfoldable pub set_of : List ℕ → Kind → ℕ → List Entry
set_of b kind x = set_from b x (from b kind) (size b kind)

-- ---- what a set is

-- A record of a set of the kind, as a good block could have it.
pub record IsEntry (kind : Kind) (e : Entry) : Type 0 where
  pub named : IsName e.id
  pub long : length e.counts ≡ letter_count
  pub fits : (k : ℕ) → get_or e.counts k 0 ≤ greatest_count
  pub counted : (k : ℕ) × (0 < get_or e.counts k 0)
  pub allowed : (k : ℕ) → may_have kind k ≡ false → get_or e.counts k 0 ≡ 0

-- "ids rising"
pub data IsSet : Kind → List Entry → Type 0 where
  empty : {kind : Kind} → IsSet kind []
  one : {kind : Kind} {e : Entry} → IsEntry kind e → IsSet kind (e ∷ [])
  more : {kind : Kind} {e f : Entry} {es : List Entry} → IsEntry kind e → e.id < f.id → IsSet kind (f ∷ es)
      → IsSet kind (e ∷ f ∷ es)

-- "The text must be exactly what some set of that kind is written as": it is what this set is written as.
unfoldable pub Writes : Kind → List Entry → List ℕ → Type 0
Writes kind es t = IsSet kind es × (text_of es ≡ t)

-- ---- where a text is wrong

-- M-101: "a beginning of some acceptable text of that kind": some set of the kind is written as these bytes followed by something.
unfoldable pub Begins : Kind → List ℕ → Type 0
Begins kind beginning = (es : List Entry) × (something : List ℕ) × Writes kind es (beginning ++ something)

-- M-101: n is "the length of its longest beginning that is also a beginning of some acceptable text of that kind".
pub record Place (kind : Kind) (text : List ℕ) (n : ℕ) : Type 0 where
  pub within : n ≤ length text
  pub begins : Begins kind (take n text)
  pub longest : (longer : ℕ) → n < longer → longer ≤ length text → Begins kind (take longer text) → ⊥

-- ---- "Reading replaces the whole set of that kind and key"

-- The count of letter k that the set has for the id y; 0 where it has no such record.
unfoldable pub count_in : List Entry → ℕ → ℕ → ℕ
count_in [] y k = 0
count_in (e ∷ es) y k = cond (eqb e.id y) (get_or e.counts k 0) (count_in es y k)

-- The set of this kind and key is now es, and every other count is as it was.
pub record Replaced (kind : Kind) (x : ℕ) (es : List Entry) (b b' : List ℕ) : Type 0 where
  pub good : Good b'
  pub same_length : length b' ≡ length b
  pub set : (y k : ℕ) → k < letter_count → count b' kind x y k ≡ count_in es y k
  pub other_keys : (x' y k : ℕ) → (x' ≡ x → ⊥) → k < letter_count → count b' kind x' y k ≡ count b kind x' y k
  pub other_kinds : (kind' : Kind) (x' y k : ℕ) → (kind' ≡ kind → ⊥) → k < letter_count
      → count b' kind' x' y k ≡ count b kind' x' y k
