-- 02, M-100, "Statements with several objects and subjects": a wide message, which stands for every pair of a key and an id. A message is
-- the list of its bytes, and begins with kind and flags as a plain one does.
use Rattle.std.specs.Prelude.{ℕ, zero, suc, ◌+◌, ◌*◌, ◌<◌, ◌≤◌, ◌≡◌, true, false, List, [], ◌∷◌, ◌++◌, map, length, get_or}
use Rattle.index.specs.declared.Kind.{Kind}
use Rattle.index.specs.Numbers.{Each}
use Rattle.index.specs.Block.{number}
use Rattle.index.specs.Message.{kind_of, Half, half_count, kind_in, present, mask_with, Begun, halves, WellFormed}

-- ---- its bytes

-- "Its 16-byte header has kind, flags, four list lengths (previous keys, previous ids, new keys, new ids), two masks, one
-- byte each, then four 16-bit offsets from its first byte". Half 0 is the previous one, half 1 the new one. The lists are numbered 0 to 3:
-- those of half h are 2 h, its keys, and 2 h + 1, its ids.
abbrev pub wide_header : ℕ
wide_header = 16

abbrev pub list_count : ℕ
list_count = 4

-- "four list lengths"
unfoldable pub list_length : List ℕ → ℕ → ℕ
list_length m q = get_or m (2 + q) 0

-- "two masks, one byte each"
unfoldable pub mask_in : List ℕ → ℕ → ℕ
mask_in m h = get_or m (6 + h) 0

-- "then four 16-bit offsets from its first byte"
unfoldable pub list_offset : List ℕ → ℕ → ℕ
list_offset m q = number m (8 + 2 * q)

-- "the lists of 16-bit names": n names from byte j on; and list q, which begins at its offset.
unfoldable pub names_from : List ℕ → ℕ → ℕ → List ℕ
names_from m j zero = []
names_from m j (suc n) = number m j ∷ names_from m (j + 2) n

unfoldable pub names : List ℕ → ℕ → List ℕ
names m q = names_from m (list_offset m q) (list_length m q)

-- "follow in that order without gaps": where list q has to begin, and for q = 4 where the message ends.
unfoldable pub list_place : List ℕ → ℕ → ℕ
list_place m zero = wide_header
list_place m (suc q) = list_place m q + 2 * list_length m q

-- "strictly rising"
unfoldable pub Rising : List ℕ → Type 0
Rising [] = Unit {0}
Rising (x ∷ xs) = Each (λ y. x < y) xs × Rising xs

-- "up to 8 keys and up to 8 ids"
abbrev pub longest_list : ℕ
longest_list = 8

-- What 3 asks of "a present half's list": it is not "empty, too long or not strictly rising".
abbrev pub ListGood : List ℕ → ℕ → Type 0
ListGood m q = (1 ≤ list_length m q) × (list_length m q ≤ longest_list) × Rising (names m q)

-- What 3 asks. "a wrong header or length, or a present half's list that is empty, too long or not strictly rising, is 3".
pub record WideFormed (m : List ℕ) : Type 0 where
  pub header : wide_header ≤ length m
  pub begun : Begun m
  -- (of an absent half too: its lists have no names, and their offsets stand where they would begin)
  pub offsets : (q : ℕ) → q < list_count → list_offset m q ≡ list_place m q
  pub ends : length m ≡ list_place m list_count
  -- "An absent half has lengths and mask zero."
  pub absent : (h : ℕ) → h < half_count → present m h ≡ false
      → (list_length m (2 * h) ≡ 0) × (list_length m (2 * h + 1) ≡ 0) × (mask_in m h ≡ 0)
  -- "a present half's list"
  pub lists : (h : ℕ) → h < half_count → present m h ≡ true → ListGood m (2 * h) × ListGood m (2 * h + 1)

-- ---- its halves

-- "for each half one mask", and it "stands for every pair", "pairs by key then id"
unfoldable pub pairs : Kind → ℕ → List ℕ → List ℕ → List Half
pairs kind mask [] ys = []
pairs kind mask (x ∷ xs) ys = map (λ y. record { kind = kind; key = x; id = y; mask = mask }) ys ++ pairs kind mask xs ys

-- Half h, pair by pair. M-107: "Wide messages and appointments carry markers", in the kind byte as plain ones do.
unfoldable pub wide_halves : List ℕ → ℕ → List Half
wide_halves m h = pairs (kind_of (kind_in m)) (mask_with m h (mask_in m h)) (names m (2 * h)) (names m (2 * h + 1))

-- ---- a message of either form

-- "wide and plain messages mixed"
pub data Sent : Type 0 where
  plain : List ℕ → Sent
  wide : List ℕ → Sent

-- Half h of it: one half or none, or "every pair".
abbrev pub halves_of : Sent → ℕ → List Half
halves_of (plain m) h = halves m h
halves_of (wide m) h = wide_halves m h

-- "All of the previous half is taken away, then all of the new added": `changes` of these two.
abbrev pub previous_of : Sent → List Half
previous_of m = halves_of m 0

abbrev pub new_of : Sent → List Half
new_of m = halves_of m 1

-- What 3 asks of it.
abbrev pub FormedOf : Sent → Type 0
FormedOf (plain m) = WellFormed m
FormedOf (wide m) = WideFormed m
