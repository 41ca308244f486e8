-- For proofs only: 01, "The text of a set", read from the front, piece by piece: an id, `;`, a letter, a count. Each reading
-- says what stands at the front of the bytes and which bytes are left after it, or that it is wrong, and from which byte on.
-- That what `text_of` writes is read so is shown in laws/text/ReadSets, and what each reading tells in laws/text/SetReader.
use Rattle.std.specs.Prelude.{ℕ, suc, ◌+◌, ◌-◌, ◌*◌, ◌<◌, ◌≡◌, Bool, true, false, cond, ◌&&◌, List, [], ◌∷◌, eqb, ltb, leb, get_or, Option, Some, None}
use Rattle.index.specs.declared.Kind.{Kind}
use Rattle.index.specs.Letters.{letter_count, letters, may_have}
use Rattle.index.specs.Text.{Entry}
use Rattle.index.specs.Block.{greatest_count, greatest_name, name_count}

-- What was read and the bytes that are left; or wrong, and the bytes from the place on.
pub data Parsed (A : Type 0) : Type 0 where
  got : A → List ℕ → Parsed A
  wrong : List ℕ → Parsed A

-- What was read is handed on, with the bytes that are left.
abbrev pub and_then : {A B : Type 0} → Parsed A → (A → List ℕ → Parsed B) → Parsed B
and_then (got a t) f = f a t
and_then (wrong t) f = wrong t

unfoldable pub digit : ℕ → Bool
digit b = cond (ltb b 48) false (leb b 57)

-- Some number from `least` to `most` is one from lo to hi, or such a one with digits more, at most d.
unfoldable pub reaches : ℕ → ℕ → ℕ → ℕ → ℕ → Bool
reaches least most ℕ.zero lo hi = leb lo most && leb least hi
reaches least most (suc d) lo hi =
    cond (leb lo most) (cond (leb least hi) true (reaches least most d (10 * lo) (10 * hi + 9))) false

-- The digits of n begin a number from `least` to `most`.
abbrev pub begins : ℕ → ℕ → ℕ → Bool
begins least most n = reaches least most 4 n n

-- The number n, which ends here: wrong below `least`.
abbrev pub ends : ℕ → ℕ → List ℕ → Parsed ℕ
ends least n t = cond (leb least n) (got n t) (wrong t)

-- The number from `least` to `most` that starts with n and goes on with the digits at the front.
unfoldable pub read_digits : ℕ → ℕ → ℕ → List ℕ → Parsed ℕ
read_digits least most n [] = ends least n []
read_digits least most n (b ∷ t) =
    cond (digit b)
    (cond (begins least most (10 * n + (b - 48))) (read_digits least most (10 * n + (b - 48)) t) (wrong (b ∷ t)))
    (ends least n (b ∷ t))

-- A number from `least` to `most`, without leading zeros.
unfoldable pub read_number : ℕ → ℕ → List ℕ → Parsed ℕ
read_number least most [] = wrong []
read_number least most (b ∷ t) =
    cond (eqb b 48) (cond (eqb least 0) (got 0 t) (wrong (b ∷ t)))
    (cond (digit b) (read_digits least most 0 (b ∷ t)) (wrong (b ∷ t)))

-- A count, after its letter: 1 where no digit follows, else a number from 2 to 65535.
unfoldable pub read_count : List ℕ → Parsed ℕ
read_count [] = got 1 []
read_count (b ∷ t) = cond (digit b) (read_number 2 greatest_count (b ∷ t)) (got 1 (b ∷ t))

-- The count of the letter: 0 where the letter does not stand there, or may not.
unfoldable pub read_letter : Bool → ℕ → List ℕ → Parsed ℕ
read_letter may l [] = got 0 []
read_letter may l (b ∷ t) = cond (may && eqb b l) (read_count t) (got 0 (b ∷ t))

-- The byte of letter k, if a record of the kind may have it.
abbrev pub byte_of : Kind → ℕ → Option ℕ
byte_of kind k = cond (may_have kind k) (Some (get_or letters k 0)) None

abbrev pub BytesOf : Kind → List (Option ℕ) → Type 0
BytesOf kind bytes = (k : ℕ) → k < letter_count → get_or bytes k None ≡ byte_of kind k

-- The counts of the letters ls, in their order, the first of which is letter k.
unfoldable pub read_counts : Kind → ℕ → List ℕ → List ℕ → Parsed (List ℕ)
read_counts kind k [] t = got [] t
read_counts kind k (l ∷ ls) t =
    and_then (read_letter (may_have kind k) l t)
    (λ c r. and_then (read_counts kind (k + 1) ls r) (λ cs s. got (c ∷ cs) s))

-- `;`
unfoldable pub read_mark : List ℕ → Parsed ℕ
read_mark [] = wrong []
read_mark (b ∷ t) = cond (eqb b 59) (got b t) (wrong (b ∷ t))

abbrev pub total : List ℕ → ℕ
total [] = 0
total (c ∷ cs) = c + total cs

-- A record: id, `;`, letters, of which there is one at least.
abbrev pub read_letters : Kind → ℕ → List ℕ → Parsed Entry
read_letters kind i t =
    and_then (read_counts kind 0 letters t)
    (λ cs r. cond (ltb 0 (total cs)) (got (record { id = i; counts = cs }) r) (wrong r))

abbrev pub read_after_id : Kind → ℕ → List ℕ → Parsed Entry
read_after_id kind i t = and_then (read_mark t) (λ m r. read_letters kind i r)

unfoldable pub read_record : Kind → ℕ → List ℕ → Parsed Entry
read_record kind least t = and_then (read_number least greatest_name t) (λ i r. read_after_id kind i r)

-- What stands after a record, e: nothing, or `;` and the records that `rest` reads, unless no id is left for one.
unfoldable pub read_more : Entry → List ℕ → (List ℕ → Parsed (List Entry)) → Parsed (List Entry)
read_more e [] rest = got (e ∷ []) []
read_more e (b ∷ t) rest =
    cond (ltb e.id greatest_name && eqb b 59) (and_then (rest t) (λ es r. got (e ∷ es) r)) (wrong (b ∷ t))

-- One record or more, at most f, to the end of the text; each id is above the one before.
unfoldable pub read_records : ℕ → Kind → ℕ → List ℕ → Parsed (List Entry)
read_records ℕ.zero kind least t = wrong t
read_records (suc f) kind least t =
    and_then (read_record kind least t) (λ e r. read_more e r (λ s. read_records f kind (e.id + 1) s))

-- The set that a text is of: at most 1024 records.
unfoldable pub parse : Kind → List ℕ → Parsed (List Entry)
parse kind [] = got [] []
parse kind (b ∷ t) = read_records name_count kind 0 (b ∷ t)
