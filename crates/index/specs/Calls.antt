-- 01, "Numbers a caller can get": the calls of this crate, each with its requirements in the order of their tests; M-100 for wide
-- messages, M-107 for lengths and markers.
use Rattle.std.specs.Prelude.{ℕ, ◌+◌, ◌*◌, ◌<◌, ◌≤◌, ◌≡◌, List, [], ◌∷◌, ◌++◌, ◌⊎◌, length, drop, Result}
use Rattle.index.specs.declared.Kind.{Kind}
use Rattle.index.specs.declared.refusals.Refusal.{Refusal}
use Rattle.index.specs.declared.refusals.ReadError.{ReadError}
use Rattle.index.specs.declared.Kind.TheVariants.{Membership}
use Rattle.index.specs.Letters.{marker_x, marker_n, Mask}
use Rattle.index.specs.Numbers.{First, Each, Means, ReadMeans}
use Rattle.index.specs.Block.{IsName, Sized, Of, key, id, count_at, Has, Good, records, room, NetAt, DeniedAt}
use Rattle.index.specs.Message.{IsKind, kind_of, Named, Masked, changes, Carried, packed_half, PackedWell, packed_changes}
use Rattle.index.specs.Wide.{Sent, previous_of, new_of, FormedOf}
use Rattle.index.specs.Wide.Sent.{plain, wide}
use Rattle.index.specs.Text.{Entry, text_of, set_of, Writes, Replaced, Place}

-- 1: "block length not 16 to" 49,168; 2: "block not good". M-107: "1 and 8 by the new lengths".
unfoldable pub block_needs : List ℕ → List (ℕ × Type 0)
block_needs b = (1, Sized b) ∷ (2, Good b) ∷ []

-- make: the number, and the block then. "It makes an empty index block", as long as it was.
abbrev pub Made : List ℕ → (ℕ × List ℕ) → Type 0
Made b o = (o.0 ≡ 0) × Good o.1 × (length o.1 ≡ length b) × (records o.1 ≡ 0)

unfoldable pub make_needs : List ℕ → List (ℕ × Type 0)
make_needs b = (1, Sized b) ∷ []

unfoldable pub Makes : List ℕ → (ℕ × List ℕ) → Type 0
Makes b o = First (λ n. (n, b)) (make_needs b) (Made b) o

-- A message, plain or wide: the number, and the block then. 3 by its form; 4: "a name above 1023, given by the caller or in a present half",
-- here the latter; 5: "a present half's mask 0, or above 15 for M or F"; then 6, 7 and 8 of its steps. M-100: "then 4 and 5; then the first
-- of 6, 7 or 8 met in pair order".
unfoldable pub sent_needs : List ℕ → Sent → List (ℕ × Type 0)
sent_needs b m =
    block_needs b
    ++ ((3, FormedOf m) ∷ (4, Each Named (previous_of m ++ new_of m)) ∷ (5, Each Masked (previous_of m ++ new_of m)) ∷ [])

unfoldable pub Sends : List ℕ → Sent → (ℕ × List ℕ) → Type 0
Sends b m o = First (λ n. (n, b)) (sent_needs b m) (Carried b (changes (previous_of m) (new_of m)) b) o

-- message: 3 is "message not 12 bytes, or kind, flags or an absent half wrong", and M-107: "both markers in one half, a marker on an absent
-- half or on kinds 2 and 3 is 3".
abbrev pub Message : List ℕ → List ℕ → (ℕ × List ℕ) → Type 0
Message b m o = Sends b (plain m) o

-- wide: 3 is, M-100: "a wrong header or length, or a present half's list that is empty, too long or not strictly rising", and the markers as in a
-- plain message.
abbrev pub Wide : List ℕ → List ℕ → (ℕ × List ℕ) → Type 0
Wide b m o = Sends b (wide m) o

-- carry_out: the number, and the block then. 3, 4 and 5 over all changes of the list, then 6, 7 and 8 of its steps.
unfoldable pub list_needs : List ℕ → List ℕ → List (ℕ × Type 0)
list_needs b cs =
    block_needs b
    ++ ((3, Each PackedWell cs)
    ∷ (4, Each (λ n. Named (packed_half n)) cs)
    ∷ (5, Each (λ n. Masked (packed_half n)) cs) ∷ [])

unfoldable pub CarriesOut : List ℕ → List ℕ → (ℕ × List ℕ) → Type 0
CarriesOut b cs o = First (λ n. (n, b)) (list_needs b cs) (Carried b (packed_changes cs) b) o

-- What write and read need first. 3: "kind not 1 to 3"; 4: "a name above 1023, given by the caller".
unfoldable pub set_needs : List ℕ → ℕ → ℕ → List (ℕ × Type 0)
set_needs b kind x = block_needs b ++ ((3, IsKind kind) ∷ (4, IsName x) ∷ [])

-- write: the number, the length of the text, and the output buffer then. "An accepted write touches only the bytes of the
-- text." 10: "text longer than the output buffer".
abbrev pub Written : List ℕ → ℕ → ℕ → List ℕ → (ℕ × ℕ × List ℕ) → Type 0
Written b kind x out o =
    let t = text_of (set_of b (kind_of kind) x) in
    o ≡ (0, length t, t ++ drop (length t) out)

unfoldable pub write_needs : List ℕ → ℕ → ℕ → List ℕ → List (ℕ × Type 0)
write_needs b kind x out = set_needs b kind x ++ ((10, length (text_of (set_of b (kind_of kind) x)) ≤ length out) ∷ [])

unfoldable pub WritesSet : List ℕ → ℕ → ℕ → List ℕ → (ℕ × ℕ × List ℕ) → Type 0
WritesSet b kind x out o = First (λ n. (n, 0, out)) (write_needs b kind x out) (Written b kind x out) o

-- read: the number, a value, and the block then. The value is how many records the set has; with 9 it is the place of the text; with
-- any other refusal it is 0. "Reading replaces the whole set of that kind and key, and returns how many records it has."
abbrev pub Read : List ℕ → Kind → ℕ → List Entry → (ℕ × ℕ × List ℕ) → Type 0
Read b kind x es o = (o.0 ≡ 0) × (o.1 ≡ length es) × Replaced kind x es b o.2

-- Without the block's own set of this kind and key, the records of es fit.
abbrev pub RoomFor : List ℕ → Kind → ℕ → List Entry → Type 0
RoomFor b kind x es = records b + length es ≤ room b + length (set_of b kind x)

-- The text is of no set. 9: "not the text of any set of that kind". M-101: "9 returns this place where it returned 0."
abbrev pub OfNone : List ℕ → Kind → List ℕ → (ℕ × ℕ × List ℕ) → Type 0
OfNone b kind text o =
    ((es : List Entry) → Writes kind es text → ⊥) × (o.0 ≡ 9) × Place kind text o.1 × (o.2 ≡ b)

-- The text is of a set. 8: after "removing the old set", "the records do not fit".
abbrev pub OfSet : List ℕ → Kind → ℕ → List ℕ → (ℕ × ℕ × List ℕ) → Type 0
OfSet b kind x text o =
    (es : List Entry) × Writes kind es text × First (λ n. (n, 0, b)) ((8, RoomFor b kind x es) ∷ []) (Read b kind x es) o

-- "read tests 9 before 8": whether there is room is asked only of a text that is of a set.
abbrev pub ReadsText : List ℕ → Kind → ℕ → List ℕ → (ℕ × ℕ × List ℕ) → Type 0
ReadsText b kind x text o = OfNone b kind text o ⊎ OfSet b kind x text o

unfoldable pub ReadsSet : List ℕ → ℕ → ℕ → List ℕ → (ℕ × ℕ × List ℕ) → Type 0
ReadsSet b kind x text o = First (λ n. (n, 0, b)) (set_needs b kind x) (ReadsText b (kind_of kind) x text) o

-- ---- what the answers of the code stand for: 01's number, and its value, which are an outcome of the call

unfoldable pub WriteAnswers : List ℕ → ℕ → ℕ → List ℕ → Result ℕ Refusal → List ℕ → Type 0
WriteAnswers b kind x out r out' = Means (λ n. n) 0 (λ o. WritesSet b kind x out (o.0, o.1, out')) r

unfoldable pub ReadAnswers : List ℕ → ℕ → ℕ → List ℕ → Result ℕ ReadError → List ℕ → Type 0
ReadAnswers b kind x text r b' = ReadMeans (λ o. ReadsSet b kind x text (o.0, o.1, b')) r

-- ---- the doors: what a crate above reads of a block

-- What is read of record i: P holds of r; it is 0 where the block has not all of the record.
pub record OfRecord (b : List ℕ) (i : ℕ) (P : ℕ → Type 0) (r : ℕ) : Type 0 where
  pub whole : Has b i → P r
  pub past : (Has b i → ⊥) → r ≡ 0

-- Its key, and 65,536 times its id.
abbrev pub PairOf : List ℕ → ℕ → ℕ → Type 0
PairOf b i r = OfRecord b i (λ n. n ≡ key b i + 65536 * id b i) r

-- Its net mask.
abbrev pub NetOf : List ℕ → ℕ → ℕ → Type 0
NetOf b i r = OfRecord b i (λ n. Mask n (NetAt b i)) r

-- The mask of the capital letters that it counts. Of an M record, which has no small letters, that is the net mask.
abbrev pub CapitalsOf : List ℕ → ℕ → ℕ → Type 0
CapitalsOf b i r = OfRecord b i (λ n. Mask n (λ k. 0 < count_at b i k)) r

-- M-112: the mask of the rights that it denies.
abbrev pub DenialsOf : List ℕ → ℕ → ℕ → Type 0
DenialsOf b i r = OfRecord b i (λ n. Mask n (DeniedAt b i)) r

-- M-107: its count of X, and 65,536 times its count of N.
abbrev pub MarksOf : List ℕ → ℕ → ℕ → Type 0
MarksOf b i r = OfRecord b i (λ n. n ≡ count_at b i marker_x + 65536 * count_at b i marker_n) r

-- M-107: a record "counts" X: some M record does, of those that the block has all of.
abbrev pub CountsX : List ℕ → Type 0
CountsX b = (i : ℕ) × Of b Membership i × Has b i × (0 < count_at b i marker_x)
