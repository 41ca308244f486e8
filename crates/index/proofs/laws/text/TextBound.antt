-- How long the text of a set can be.
use Prim.Native.Nat.{ℕ, zero, suc, ◌+◌, ◌*◌, ◌<◌, ◌≤◌}
use mathlib.Core.Path.{◌≡◌, refl, ap}
use mathlib.Core.Bool.{Bool, true, false, cond}
use mathlib.Core.List.{List, [], ◌∷◌}
use native.Mathlib.Omega.{arith}
use lib.Dec.{eqb}
use lib.ListN.{length, get_or, take, length-append, length-take}
use Rattle.index.specs.declared.Kind.{Kind}
use Rattle.index.specs.declared.Kind.TheVariants.{Membership, Permission, Filter}
use Rattle.index.specs.Letters.{letter_count, letters, may_have}
use Rattle.index.specs.Block.{place, Sized, Good, size, from, records, key}
use Rattle.index.specs.Text.{Entry, decimal, piece_of, pieces_of, entry_text, text_of, entry_at, set_from, set_of, IsSet, Writes, Begins, Place}
use Rattle.index.specs.work.Pieces.{next_text}
use Rattle.index.specs.work.Written.{entries_from}
use Rattle.index.specs.work.Longest.{field_digits, longest_piece, record_with, most_letters, longest_record, longest_text, any_record}
use Rattle.index.proofs.laws.block.Bytes.{number_small, count_small}
use Rattle.index.proofs.laws.text.Digits.{ten}
use Rattle.index.proofs.laws.text.Decimal.{decimal_five}
use Rattle.index.proofs.laws.block.Records.{few_records, gap_in, kind_of_lem}
use Rattle.index.proofs.laws.message.Halves.{differ}
use Rattle.index.proofs.laws.text.SetCounts.{counts_any}
use Rattle.index.proofs.laws.text.IsSet.{is_set}
use Rattle.index.proofs.laws.text.ReadSets.{set_few}

no_piece : (l : ℕ) → length (piece_of l 0) ≤ 0
unfolding piece_of
no_piece l = omega arith

pub piece_bound : (l n : ℕ) → n < ten field_digits → length (piece_of l n) ≤ longest_piece
unfolding piece_of
piece_bound l zero h = omega arith
piece_bound l (suc zero) h = omega arith
piece_bound l (suc (suc n)) h = omega (arith, decimal_five (suc (suc n)) h)

-- How many of the first n letters a record may have.
abbrev many : (ℕ → Bool) → ℕ → ℕ
many may zero = 0
many may (suc n) = cond (may 0) 1 0 + many (λ k. may (suc k)) n

pieces_bound : (ls cs : List ℕ) (may : ℕ → Bool) → ((k : ℕ) → get_or cs k 0 < ten field_digits) → ((k : ℕ) → may k ≡ false → get_or cs k 0 ≡ 0)
    → length (pieces_of ls cs) ≤ longest_piece * many may (length ls)
unfolding pieces_of
pieces_bound [] cs may h none = omega arith
pieces_bound (l ∷ ls) [] may h none = omega arith
pieces_bound (l ∷ ls) (c ∷ cs) may h none =
    omega (
      arith,
      length-append (piece_of l c) (pieces_of ls cs),
      first (may 0) refl,
      pieces_bound ls cs (λ k. may (suc k)) (λ k. h (suc k)) (λ k. none (suc k)),
    )
  where
    first : (t : Bool) → may 0 ≡ t → length (piece_of l c) ≤ longest_piece * cond t 1 0
    first true e = piece_bound l c (h 0)
    first false e = let z = none 0 e in rw z (no_piece l)

-- A record whose counts are those of letters that it may have.
entry_bound : (e : Entry) (may : ℕ → Bool) → e.id < ten field_digits → ((k : ℕ) → get_or e.counts k 0 < ten field_digits)
    → ((k : ℕ) → may k ≡ false → get_or e.counts k 0 ≡ 0) → length (entry_text e) < record_with (many may letter_count)
unfolding entry_text letters
entry_bound e may h f none =
    omega (
      arith,
      length-append (decimal e.id) (59 ∷ pieces_of letters e.counts),
      decimal_five e.id h,
      pieces_bound letters e.counts may f none,
    )

-- A kind may have so many at most.
few_letters : (kind : Kind) → many (may_have kind) letter_count ≤ most_letters
unfolding may_have
few_letters Membership = omega arith
few_letters Permission = omega arith
few_letters Filter = omega arith

own_bound : (kind : Kind) (e : Entry) → e.id < ten field_digits → ((k : ℕ) → get_or e.counts k 0 < ten field_digits)
    → ((k : ℕ) → may_have kind k ≡ false → get_or e.counts k 0 ≡ 0) → length (entry_text e) < longest_record
own_bound kind e h f none = omega (arith, entry_bound e (may_have kind) h f none, few_letters kind)

-- Records of a block, whose bytes are bytes.
module _ (b : List ℕ) (bytes : (j : ℕ) → get_or b j 0 < 256) where
  id_small : (i : ℕ) → (entry_at b i).id < ten field_digits
  id_small i = omega (arith, number_small b (place i + 2) bytes)

  counts_small : (i k : ℕ) → get_or (entry_at b i).counts k 0 < ten field_digits
  counts_small i k = omega (arith, counts_any b i k, count_small b i k bytes)

  any_bound : (i : ℕ) → length (entry_text (entry_at b i)) < any_record
  any_bound i = entry_bound (entry_at b i) (λ k. true) (id_small i) (counts_small i) (λ k e. absurd (differ e))

  -- One, with the `;` before it, where the text has begun.
  pub next_bound : (begun : Bool) (i : ℕ) → length (next_text begun (entry_at b i)) ≤ any_record
  next_bound true i = any_bound i
  next_bound false i = omega (arith, any_bound i)

-- Records of a good block.
module _ {b : List ℕ} (g : Good b) where
  record_bound : (i : ℕ) → i < records b → length (entry_text (entry_at b i)) < longest_record
  record_bound i l =
      let (kind, of) = kind_of_lem b i l in
      own_bound kind (entry_at b i) (id_small b g.bytes i) (counts_small b g.bytes i)
      (λ k e. omega (arith, counts_any b i k, g.allowed kind i of k e))

  -- The text of n of them.
  pub entries_bound : (i n : ℕ) → i + n ≤ records b → length (text_of (entries_from b i n)) ≤ longest_record * n
  unfolding text_of
  entries_bound i zero l = omega arith
  entries_bound i (suc zero) l = omega (arith, record_bound i (omega arith))
  entries_bound i (suc (suc n)) l =
      omega (
        arith,
        length-append (entry_text (entry_at b i)) (59 ∷ text_of (entries_from b (i + 1) (suc n))),
        record_bound i (omega arith),
        entries_bound (i + 1) (suc n) (omega arith),
      )

pub text_bound : {kind : Kind} {es : List Entry} → IsSet kind es → length (text_of es) ≤ longest_record * length es
unfolding text_of
text_bound IsSet.empty = omega arith
text_bound (IsSet.one {kind = kind} {e = e} h) = omega (arith, own_bound kind e (omega (arith, h.named)) (λ k. omega (arith, h.fits k)) h.allowed)
text_bound (IsSet.more {kind = kind} {e = e} {f = f} {es = es} h l s) =
    omega (
      arith,
      length-append (entry_text e) (59 ∷ text_of (f ∷ es)),
      own_bound kind e (omega (arith, h.named)) (λ k. omega (arith, h.fits k)) h.allowed,
      text_bound s,
    )

-- So no place is beyond the longest text.
pub place_bound : {kind : Kind} {t : List ℕ} {n : ℕ} → Place kind t n → n ≤ longest_text
unfolding Begins Writes
place_bound {kind} {t} {n} p =
    let (es, more, w) = p.begins in
    omega (
      arith,
      p.within,
      length-take n t,
      length-append (take n t) more,
      ap length w.1,
      text_bound w.0,
      set_few w.0,
    )

set_bound : (b : List ℕ) (x i n : ℕ) → length (set_from b x i n) ≤ n
unfolding set_from
set_bound b x i zero = omega arith
set_bound b x i (suc n) = go (eqb (key b i) x) (set_bound b x (i + 1) n)
  where
    go : (t : Bool) → length (set_from b x (i + 1) n) ≤ n
        → length (cond t (entry_at b i ∷ set_from b x (i + 1) n) (set_from b x (i + 1) n)) ≤ suc n
    go true h = omega arith
    go false h = omega arith

pub set_text_bound : {b : List ℕ} → Sized b → Good b → (kind : Kind) (x : ℕ) → length (text_of (set_of b kind x)) ≤ longest_text
unfolding set_of
set_text_bound {b} s g kind x =
    omega (
      arith,
      text_bound (is_set g kind x),
      set_bound b x (from b kind) (size b kind),
      gap_in kind b (size b kind) (omega arith),
      few_records s g,
    )
