-- Letters with counts are read as what they are written from.
use Prim.Native.Nat.{ℕ, suc, ◌+◌, ◌<◌, ◌≤◌}
use mathlib.Core.Path.{◌≡◌, refl}
use mathlib.Core.Bool.{Bool, true, false, not, ◌&&◌}
use lib.Dec.{eqb, leb}
use mathlib.Core.List.{List, [], ◌∷◌, ◌++◌, append_assoc}
use lib.ListN.{length, get_or}
use native.Mathlib.Omega.{arith}
use borrow.Author.Tests.{eq-eqb, ne_eqb, eqb-false, leb-true, not-true}
use Rattle.index.specs.declared.Kind.{Kind}
use Rattle.index.specs.Letters.{letters, may_have}
use Rattle.index.specs.Text.{decimal, piece_of, pieces_of}
use Rattle.index.specs.work.Reading.{digit, read_count, read_letter, read_counts}
use Rattle.index.specs.work.Reading.Parsed.{got}
use Rattle.index.proofs.laws.Tests.{both}
use Rattle.index.proofs.laws.text.Decimal.{first, digit_yes, digit_high, decimal_five, decimal_spelt, Spells}
use Rattle.index.proofs.laws.text.Decimal.Spells.{spells}
use Rattle.index.proofs.laws.text.ReadNumbers.{spells_complete}
use Rattle.index.specs.Block.{greatest_count}

pub piece_one : (l : ℕ) → piece_of l 1 ≡ l ∷ []
unfolding piece_of
piece_one l = refl

pub piece_none : (l : ℕ) → piece_of l 0 ≡ []
unfolding piece_of
piece_none l = refl

pub piece_many : (l c : ℕ) → 2 ≤ c → l ∷ decimal c ≡ piece_of l c
unfolding piece_of
piece_many l ℕ.zero h = absurd (omega arith)
piece_many l (suc ℕ.zero) h = absurd (omega arith)
piece_many l (suc (suc c)) h = refl

count_complete : (n : ℕ) {t : List ℕ} (r : List ℕ) → Spells n t → length t ≤ 5 → 2 ≤ n → n ≤ greatest_count → digit (first r) ≡ false
    → read_count (t ++ r) ≡ got n r
unfolding read_count
count_complete n r (spells b t l u ds v) j k h d =
    let g : digit b ≡ true = digit_yes b (omega arith) u in
    simp g (spells_complete 2 greatest_count n r (spells b t l u ds v) j k h d)

letter_none : (l : ℕ) (r : List ℕ) → read_letter false l r ≡ got 0 r
unfolding read_letter
letter_none l [] = refl
letter_none l (b ∷ r) = refl

letter_complete : (may : Bool) (l c : ℕ) (r : List ℕ) → (may ≡ false → c ≡ 0) → c ≤ greatest_count → digit (first r) ≡ false → (first r ≡ l → ⊥)
    → read_letter may l (piece_of l c ++ r) ≡ got c r
unfolding read_letter piece_of
letter_complete false l c r n h d m = rw (n refl) (letter_none l r)
letter_complete true l ℕ.zero [] n h d m = refl
letter_complete true l ℕ.zero (b ∷ r) n h d m = simp (ne_eqb b l m)
letter_complete true l (suc ℕ.zero) [] n h d m = simp (eq-eqb l l refl) (unfold read_count in refl)
letter_complete true l (suc ℕ.zero) (b ∷ r) n h d m = simp (eq-eqb l l refl) (unfold read_count in simp d)
letter_complete true l (suc (suc c)) r n h d m =
    simp (eq-eqb l l refl)
    (count_complete (suc (suc c)) r (decimal_spelt (suc (suc c)) (omega arith) (omega arith)) (decimal_five (suc (suc c)) (omega arith)) (omega arith) h d)

-- ---- the counts of a record

abbrev All : (ℕ → Type 0) → List ℕ → Type 0
All P [] = Unit {0}
All P (x ∷ xs) = P x × All P xs

-- letters that can be told from each other, from `;` and from digits
abbrev Apart : List ℕ → Type 0
Apart [] = Unit {0}
Apart (l ∷ ls) = (60 ≤ l) × All (λ (x : ℕ). x ≡ l → ⊥) ls × Apart ls

-- a test of it that computes
abbrev other_test : ℕ → List ℕ → Bool
other_test l [] = true
other_test l (x ∷ xs) = not (eqb x l) && other_test l xs

abbrev apart_test : List ℕ → Bool
apart_test [] = true
apart_test (l ∷ ls) = leb 60 l && (other_test l ls && apart_test ls)

other_test_lem : (l : ℕ) (xs : List ℕ) → other_test l xs ≡ true → All (λ (x : ℕ). x ≡ l → ⊥) xs
other_test_lem l [] e = tt
other_test_lem l (x ∷ xs) e =
    let p = both (not (eqb x l)) (other_test l xs) e in
    (eqb-false x l (not-true (eqb x l) p.0), other_test_lem l xs p.1)

apart_test_lem : (ls : List ℕ) → apart_test ls ≡ true → Apart ls
apart_test_lem [] e = tt
apart_test_lem (l ∷ ls) e =
    let p = both (leb 60 l) _ e in
    let q = both (other_test l ls) (apart_test ls) p.1 in
    (leb-true _ _ p.0, other_test_lem l ls q.0, apart_test_lem ls q.1)

pub letters_apart : Apart letters
unfolding letters
letters_apart = apart_test_lem letters refl

-- what holds of each letter, and of what comes after, holds of the first byte
first_of : (P : ℕ → Type 0) (ls cs r : List ℕ) → All P ls → P (first r) → P (first (pieces_of ls cs ++ r))
unfolding pieces_of
first_of P [] cs r a h = h
first_of P (l ∷ ls) [] r a h = h
first_of P (l ∷ ls) (ℕ.zero ∷ cs) r a h = rw (piece_none l) (first_of P ls cs r a.1 h)
first_of P (l ∷ ls) (suc ℕ.zero ∷ cs) r a h = rw (piece_one l) a.0
first_of P (l ∷ ls) (suc (suc c) ∷ cs) r a h = rw (← piece_many l (suc (suc c)) (omega arith)) a.0

all_high : (ls : List ℕ) → Apart ls → All (λ (x : ℕ). 57 < x) ls
all_high [] a = tt
all_high (l ∷ ls) a = (omega arith, all_high ls a.2)

pub counts_complete : (kind : Kind) (k : ℕ) (ls cs r : List ℕ) → Apart ls → length cs ≡ length ls → ((j : ℕ) → get_or cs j 0 ≤ greatest_count)
    → ((j : ℕ) → may_have kind (k + j) ≡ false → get_or cs j 0 ≡ 0) → first r ≡ 59 → read_counts kind k ls (pieces_of ls cs ++ r) ≡ got cs r
unfolding read_counts pieces_of
counts_complete kind k [] [] r a e f z h = refl
counts_complete kind k [] (c ∷ cs) r a e f z h = absurd (omega arith)
counts_complete kind k (l ∷ ls) [] r a e f z h = absurd (omega arith)
counts_complete kind k (l ∷ ls) (c ∷ cs) r a e f z h =
    let here : k + 0 ≡ k = omega arith in
    let on : (j : ℕ) → k + 1 + j ≡ k + suc j = λ j. omega arith in
    let hi : 57 < first (pieces_of ls cs ++ r) = first_of (λ x. 57 < x) ls cs r (all_high ls a.2) (omega arith) in
    let ne : first (pieces_of ls cs ++ r) ≡ l → ⊥ = first_of (λ x. x ≡ l → ⊥) ls cs r a.1 (omega arith) in
    simp (
      append_assoc,
      letter_complete (may_have kind k) l c (pieces_of ls cs ++ r) (λ w. z 0 (rw here w)) (f 0) (digit_high _ hi) ne,
      counts_complete kind (k + 1) ls cs r a.2 (omega arith) (λ j. f (suc j)) (λ j q. z (suc j) (rw (on j) at q)) h,
    )
