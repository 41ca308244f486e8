-- Laws of bytes that are written one after the other.
use Prim.Native.Nat.{ℕ, suc, ◌+◌, ◌-◌, ◌<◌, ◌≤◌}
use mathlib.Core.Path.{◌≡◌, refl, sym, ap, ◌∙◌}
use mathlib.Core.Bool.{Bool, true}
use mathlib.Core.List.{List, [], ◌∷◌, ◌++◌}
use lib.ListN.{length, drop, set, get_or, length-append}
use lib.Seq.{length-sets}
use native.Mathlib.Omega.{arith}
use Rattle.index.proofs.laws.block.Stores.{sets_append}
use Rattle.index.specs.Letters.{letter_count, letters}
use Rattle.index.specs.Block.{count_at}
use Rattle.index.specs.Text.{decimal, piece_of, pieces_of, counts_from, counts_at, entry_at}
use Rattle.index.specs.work.Pieces.{next_text, rest}
use Rattle.index.specs.work.Written.{Puts, entries_from}
use Rattle.index.proofs.laws.text.ReadLetters.{piece_none, piece_one, piece_many}
use Rattle.index.proofs.laws.text.ReadSets.{all_letters}
use Rattle.index.proofs.laws.text.SetText.{rest_next, rest_none}
use Rattle.index.proofs.laws.text.ReadSteps.{front}

pub puts_none : (at : ℕ) (out : List ℕ) → Puts at [] out at out
puts_none at out = record { ends = omega arith; buffer = refl }

pub puts_then : {at m r : ℕ} (s t : List ℕ) {out out₁ out₂ : List ℕ} → Puts at s out m out₁ → Puts m t out₁ r out₂ → Puts at (s ++ t) out r out₂
puts_then {at} s t {out} p q =
    record {
      ends = omega (arith, p.ends, q.ends, length-append s t);
      buffer = q.buffer ∙ rw (p.buffer, p.ends) (sym (sets_append out at s t));
    }

-- What holds in a loop: whatever writes the bytes that are left ends the writing of all.
pub record Going (at : ℕ) (all out₀ : List ℕ) (end : ℕ) (left out : List ℕ) : Type 0 where
  pub same_length : length out ≡ length out₀
  pub joins : (r : ℕ) (o : List ℕ) → Puts end left out r o → Puts at all out₀ r o

pub going_next : {at end end' : ℕ} {all out₀ out out' : List ℕ} (now next : List ℕ) {left : List ℕ} → Going at all out₀ end left out
    → left ≡ now ++ next → Puts end now out end' out' → Going at all out₀ end' next out'
going_next {end = end} {out = out} now next g e p =
    record {
      same_length = ap length p.buffer ∙ length-sets out end now ∙ g.same_length;
      joins = λ r o q. g.joins r o (rw e (puts_then now next p q));
    }

pub going_last : {at end : ℕ} {all out₀ left out : List ℕ} → Going at all out₀ end left out → left ≡ [] → Puts at all out₀ end out
going_last {end = end} {out = out} g e = g.joins end out (rw e (puts_none end out))

-- ---- a byte

set_past : (l : List ℕ) (i a : ℕ) → length l ≤ i → set l i a ≡ l
set_past [] i a h = refl
set_past (x ∷ l) ℕ.zero a h = absurd (omega arith)
set_past (x ∷ l) (suc i) a h = ap (λ (r : List ℕ). x ∷ r) (set_past l i a (omega arith))

-- ---- a letter with its count

pub text_none : (l n : ℕ) → n ≡ 0 → piece_of l n ≡ []
text_none l n e = ap (piece_of l) e ∙ piece_none l

pub text_one : (l n : ℕ) → n ≡ 1 → piece_of l n ≡ l ∷ []
text_one l n e = ap (piece_of l) e ∙ piece_one l

pub text_many : (l n : ℕ) → (n ≡ 0 → ⊥) → (n ≡ 1 → ⊥) → piece_of l n ≡ l ∷ decimal n
text_many l n h k = sym (piece_many l n (omega arith))

-- ---- the letters of a record from letter k on

abbrev pub todo : List ℕ → ℕ → List ℕ
todo cs k = pieces_of (drop k letters) (drop k cs)

module _ (b : List ℕ) (i : ℕ) where
  from_length : (k n : ℕ) → length (counts_from b i k n) ≡ n
  unfolding counts_from
  from_length k ℕ.zero = refl
  from_length k (suc n) = ap suc (from_length (k + 1) n)

  from_each : (k n j : ℕ) → j < n → get_or (counts_from b i k n) j 0 ≡ count_at b i (k + j)
  unfolding counts_from
  from_each k ℕ.zero j h = absurd (omega arith)
  from_each k (suc n) ℕ.zero h = let e : k + 0 ≡ k = omega arith in rw e
  from_each k (suc n) (suc j) h = let e : k + suc j ≡ k + 1 + j = omega arith in rw e (from_each (k + 1) n j (omega arith))

  pub counts_long : length (counts_at b i) ≡ letter_count
  unfolding counts_at
  counts_long = from_length 0 letter_count

  pub counts_each : (k : ℕ) → k < letter_count → get_or (counts_at b i) k 0 ≡ count_at b i k
  unfolding counts_at
  counts_each k h = let e : 0 + k ≡ k = omega arith in from_each 0 letter_count k h ∙ ap (count_at b i) e

module _ (b : List ℕ) (i k : ℕ) where
  pub todo_step : k < letter_count → (n : ℕ) → n ≡ count_at b i k
      → todo (counts_at b i) k ≡ piece_of (get_or letters k 0) n ++ todo (counts_at b i) (k + 1)
  unfolding pieces_of
  todo_step h n e =
      rw (front letters k (omega (arith, all_letters)), front (counts_at b i) k (omega (arith, counts_long b i)), counts_each b i k h, e)

  pub todo_none : k ≡ letter_count → todo (counts_at b i) k ≡ []
  unfolding pieces_of letters
  todo_none e = rw e

-- ---- the records from number i up to number end

module _ (b : List ℕ) (begun : Bool) (i end : ℕ) where
  pub rest_here : i < end
      → rest begun (entries_from b i (end - i)) ≡ next_text begun (entry_at b i) ++ rest true (entries_from b (i + 1) (end - (i + 1)))
  rest_here h =
      let e : end - i ≡ suc (end - (i + 1)) = omega arith in
      ap (λ (n : ℕ). rest begun (entries_from b i n)) e ∙ rest_next begun (entry_at b i) (entries_from b (i + 1) (end - (i + 1)))

  pub rest_end : end ≤ i → rest begun (entries_from b i (end - i)) ≡ []
  rest_end h = let e : end - i ≡ 0 = omega arith in ap (λ (n : ℕ). rest begun (entries_from b i n)) e ∙ rest_none begun
