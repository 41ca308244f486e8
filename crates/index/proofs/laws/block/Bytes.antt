-- A number in a block.
use Prim.Native.Nat.{ℕ, ◌+◌, ◌*◌, ◌/◌, ◌%◌, ◌<◌, ◌≤◌}
use mathlib.Core.Path.{◌≡◌, refl, ◌∙◌, ap}
use mathlib.Core.List.{List}
use mathlib.Core.Logic.{⊎_elim}
use native.Mathlib.Omega.{arith}
use borrow.Author.Tests.{lt-ltb, le-ltb}
use lib.ListN.{length, get_or, set, length-set}
use lib.Seq.{get_or-set_same, get_or-set_other}
use Rattle.index.specs.Letters.{letter_count}
use Rattle.index.specs.Block.{number, place, count_at}
use Rattle.index.specs.work.Bytes.{Put, Inside}
use Rattle.index.proofs.laws.Range.{lt_or_le}

pub put : (b : List ℕ) (i n : ℕ) → i + 1 < length b → Put i n b (set (set b i (n % 256)) (i + 1) (n / 256))
unfolding number
put b i n h =
    record {
      here =
          let low : get_or (set (set b i (n % 256)) (i + 1) (n / 256)) i 0 ≡ n % 256 =
          rw (get_or-set_other (set b i (n % 256)) (i + 1) i (n / 256) 0 (omega arith))
          (get_or-set_same b i (n % 256) 0 (omega arith)) in
          let high : get_or (set (set b i (n % 256)) (i + 1) (n / 256)) (i + 1) 0 ≡ n / 256 =
          get_or-set_same (set b i (n % 256)) (i + 1) (n / 256) 0 (omega (arith, length-set b i (n % 256))) in
          omega arith;
      rest =
          record {
            same_length = simp length-set;
            below = λ t l. other t (omega arith) (omega arith);
            above = λ t l. other t (omega arith) (omega arith);
          };
    }
  where
    other : (t : ℕ) → (t ≡ i → ⊥) → (t ≡ i + 1 → ⊥) → get_or (set (set b i (n % 256)) (i + 1) (n / 256)) t 0 ≡ get_or b t 0
    other t p q = rw (get_or-set_other (set b i (n % 256)) (i + 1) t (n / 256) 0 q) (get_or-set_other b i t (n % 256) 0 p)

-- What stays the same.
module _ {lo hi : ℕ} {b b' : List ℕ} (w : Inside lo hi b b') where
  pub number_below : (t : ℕ) → t + 1 < lo → number b' t ≡ number b t
  unfolding number
  number_below t l = omega (arith, w.below t (omega arith), w.below (t + 1) l)

  pub number_above : (t : ℕ) → hi ≤ t → number b' t ≡ number b t
  unfolding number
  number_above t l = omega (arith, w.above t l, w.above (t + 1) (omega arith))

pub inside_none : (lo hi : ℕ) (b : List ℕ) → Inside lo hi b b
inside_none lo hi b = record { same_length = refl; below = λ t l. refl; above = λ t l. refl }

pub inside_then : {lo hi lo' hi' : ℕ} {a b c : List ℕ} → Inside lo hi a b → Inside lo' hi' b c → lo ≤ lo' → hi' ≤ hi → Inside lo hi a c
inside_then v w l h =
    record {
      same_length = w.same_length ∙ v.same_length;
      below = λ t k. w.below t (omega arith) ∙ v.below t k;
      above = λ t k. w.above t (omega arith) ∙ v.above t k;
    }

pub inside_wide : {lo hi : ℕ} {a b : List ℕ} (lo' hi' : ℕ) → Inside lo hi a b → lo' ≤ lo → hi ≤ hi' → Inside lo' hi' a b
inside_wide lo' hi' v l h =
    record {
      same_length = v.same_length;
      below = λ t k. v.below t (omega arith);
      above = λ t k. v.above t (omega arith);
    }

pub number_small : (b : List ℕ) (i : ℕ) → ((j : ℕ) → get_or b j 0 < 256) → number b i < 65536
unfolding number
number_small b i h = omega (arith, h i, h (i + 1))

-- ---- a count

pub count_number : (b : List ℕ) (i k : ℕ) → k < letter_count → count_at b i k ≡ number b (place i + 4 + 2 * k)
unfolding count_at
count_number b i k h = simp (lt-ltb k letter_count h)

pub count_in_lem : (b : List ℕ) (i k p : ℕ) → k < letter_count → place i + 4 + 2 * k ≡ p → count_at b i k ≡ number b p
count_in_lem b i k p h e = count_number b i k h ∙ ap (number b) e

pub count_out : (b : List ℕ) (i k : ℕ) → letter_count ≤ k → count_at b i k ≡ 0
unfolding count_at
count_out b i k h = simp (le-ltb k letter_count h)

pub count_small : (b : List ℕ) (i k : ℕ) → ((j : ℕ) → get_or b j 0 < 256) → count_at b i k < 65536
count_small b i k h =
    ⊎_elim (λ l. rw (count_number b i k l) (number_small b _ h)) (λ l. rw (count_out b i k l) (omega arith))
    (lt_or_le k letter_count)
