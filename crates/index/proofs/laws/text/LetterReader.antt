-- What reading letters and counts tells: the bytes read are what they are written as, or begin it.
use Prim.Native.Nat.{ℕ, suc, ◌+◌, ◌≤◌}
use mathlib.Core.Path.{◌≡◌, refl, sym, ap, ◌∙◌}
use mathlib.Core.Bool.{Bool, true, false, cond, ◌&&◌}
use mathlib.Core.List.{List, [], ◌∷◌, ◌++◌}
use lib.ListN.{length, get_or}
use lib.Dec.{eqb}
use native.Mathlib.Omega.{arith}
use borrow.Author.Tests.{eqb-true}
use Rattle.index.specs.declared.Kind.{Kind}
use Rattle.index.specs.Letters.{may_have}
use Rattle.index.specs.Block.{greatest_count}
use Rattle.index.specs.Text.{piece_of, pieces_of}
use Rattle.index.specs.work.Reading.{digit, read_number, read_count, read_letter, read_counts}
use Rattle.index.specs.work.Reading.Parsed.{got}
use Rattle.index.proofs.laws.text.TakenApart.{and_true}
use Rattle.index.proofs.laws.text.Readers.{Tells, Reader, tells_as, tells_end, tells_byte, tells_next, reader_got, reader_then, reader_give}
use Rattle.index.proofs.laws.text.ReadLetters.{piece_one, piece_none, piece_many}
use Rattle.index.proofs.laws.text.NumberReader.{Number, number_reader}

count_reader : (l : ℕ) → Reader ℕ read_count (λ c u. (piece_of l c ≡ l ∷ u) × (c ≤ greatest_count))
unfolding read_count
count_reader l [] = tells_end read_count _ (got 1) _ (reader_got _ 1 (piece_one l, omega arith) []) refl
count_reader l (b ∷ t) = go (digit b) refl
  where
    go : (d : Bool) → digit b ≡ d
        → Tells ℕ read_count (λ c u. (piece_of l c ≡ l ∷ u) × (c ≤ greatest_count)) (b ∷ t) (cond d (read_number 2 greatest_count (b ∷ t)) (got 1 (b ∷ t)))
    go true p =
        tells_byte read_count _ (read_number 2 greatest_count) b t _
        (tells_as (read_number 2 greatest_count) (Number 2 greatest_count) _ (b ∷ t) _
        (λ c u w. (sym (piece_many l c w.1) ∙ ap (λ (r : List ℕ). l ∷ r) w.0, w.2))
        (number_reader 2 greatest_count (omega arith) (omega arith) (b ∷ t)))
        (λ s. simp p)
    go false p = tells_byte read_count _ (got 1) b t _ (reader_got _ 1 (piece_one l, omega arith) (b ∷ t)) (λ s. simp p)

-- what a letter with the count c is written as, where it may stand
abbrev Piece : Bool → ℕ → ℕ → List ℕ → Type 0
Piece may l c u = (piece_of l c ≡ u) × (c ≤ greatest_count) × (may ≡ false → c ≡ 0)

letter_reader : (may : Bool) (l : ℕ) → Reader ℕ (read_letter may l) (Piece may l)
unfolding read_letter
letter_reader may l [] = tells_end (read_letter may l) (Piece may l) (got 0) _ (reader_got (Piece may l) 0 (piece_none l, omega arith, λ _. refl) []) refl
letter_reader may l (b ∷ t) = go (may && eqb b l) refl
  where
    go : (d : Bool) → (may && eqb b l) ≡ d → Tells ℕ (read_letter may l) (Piece may l) (b ∷ t) (cond d (read_count t) (got 0 (b ∷ t)))
    go true p =
        let a = and_true may _ p in
        tells_next (read_letter may l) (Piece may l) read_count b t _
        (tells_as read_count _ (λ c u. Piece may l c (b ∷ u)) t _
        (λ c u w. (
          w.0 ∙ ap (λ (x : ℕ). x ∷ u) (sym (eqb-true b l a.1)),
          w.1,
          λ n. let y : true ≡ false = sym a.0 ∙ n in let y' : ◌≡◌ {A = ℕ} 0 1 = cc in absurd (omega arith),
        ))
        (count_reader l t))
        (λ s. simp p)
    go false p =
        tells_byte (read_letter may l) (Piece may l) (got 0) b t _
        (reader_got (Piece may l) 0 (piece_none l, omega arith, λ _. refl) (b ∷ t)) (λ s. simp p)

-- ---- the counts of a record

-- counts that a record of the kind may have, of the letters ls, the first of which is letter k
pub record Fair (kind : Kind) (k : ℕ) (ls cs : List ℕ) : Type 0 where
  pub long : length cs ≡ length ls
  pub fits : (j : ℕ) → get_or cs j 0 ≤ greatest_count
  pub none : (j : ℕ) → may_have kind (k + j) ≡ false → get_or cs j 0 ≡ 0

pub fair_cons : (kind : Kind) (k l : ℕ) (ls : List ℕ) (c : ℕ) (cs : List ℕ) → c ≤ greatest_count → (may_have kind k ≡ false → c ≡ 0)
    → Fair kind (k + 1) ls cs → Fair kind k (l ∷ ls) (c ∷ cs)
fair_cons kind k l ls c cs h z f = record { long = ap suc f.long; fits = fits; none = none }
  where
    fits : (j : ℕ) → get_or (c ∷ cs) j 0 ≤ greatest_count
    fits ℕ.zero = h
    fits (suc j) = f.fits j

    none : (j : ℕ) → may_have kind (k + j) ≡ false → get_or (c ∷ cs) j 0 ≡ 0
    none ℕ.zero p = let e : k + 0 ≡ k = omega arith in z (rw e at p)
    none (suc j) p = let e : k + suc j ≡ k + 1 + j = omega arith in f.none j (rw e at p)

-- what the letters ls with the counts cs are written as
abbrev pub Counts : Kind → ℕ → List ℕ → List ℕ → List ℕ → Type 0
Counts kind k ls cs u = (pieces_of ls cs ≡ u) × Fair kind k ls cs

pub counts_reader : (kind : Kind) (k : ℕ) (ls : List ℕ) → Reader (List ℕ) (read_counts kind k ls) (Counts kind k ls)
unfolding read_counts pieces_of
counts_reader kind k [] t =
    reader_got (Counts kind k []) [] (refl, record { long = refl; fits = λ j. omega arith; none = λ j p. refl }) t
counts_reader kind k (l ∷ ls) t =
    reader_then (read_letter (may_have kind k) l) (Piece (may_have kind k) l) (Counts kind k (l ∷ ls)) (letter_reader (may_have kind k) l) _
    (λ c u w.
    reader_give (read_counts kind (k + 1) ls) (Counts kind (k + 1) ls) (λ cs v. Counts kind k (l ∷ ls) cs (u ++ v))
    (counts_reader kind (k + 1) ls)
    (λ cs. c ∷ cs) (λ cs v z. ((λ i. w.0 i ++ z.0 i), fair_cons kind k l ls c cs w.1 w.2 z.1)))
    t
