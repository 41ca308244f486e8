-- The counts of a block's set are those of the block.
use Prim.Native.Nat.{ℕ, suc, ◌+◌}
use mathlib.Core.Path.{◌≡◌, refl, sym, ◌∙◌}
use mathlib.Core.Bool.{Bool, true, false, cond, ◌&&◌}
use mathlib.Core.List.{List, ◌∷◌}
use mathlib.Core.Logic.{⊎_elim}
use native.Mathlib.Omega.{arith}
use lib.Dec.{eqb}
use lib.ListN.{get_or, get_or-eq_default}
use Rattle.index.specs.declared.Kind.{Kind}
use Rattle.index.specs.Letters.{letter_count}
use Rattle.index.specs.Block.{key, id, from, size, count_at, count_from, count}
use Rattle.index.specs.Text.{counts_at, entry_at, set_from, set_of, count_in}
use Rattle.index.proofs.laws.Range.{lt_or_le}
use Rattle.index.proofs.laws.block.Bytes.{count_out}
use Rattle.index.proofs.laws.text.Writes.{counts_long, counts_each}

pub counts_any : (b : List ℕ) (i k : ℕ) → get_or (counts_at b i) k 0 ≡ count_at b i k
counts_any b i k =
    ⊎_elim (λ h. counts_each b i k h)
    (λ h. get_or-eq_default (counts_at b i) 0 {n = k} (omega (arith, counts_long b i)) ∙ sym (count_out b i k h))
    (lt_or_le k letter_count)

module _ (b : List ℕ) (x y k : ℕ) where
  pub set_count : (i n : ℕ) → count_in (set_from b x i n) y k ≡ count_from b x y k i n
  unfolding set_from count_from count_in
  set_count i ℕ.zero = refl
  set_count i (suc n) = go (set_count (i + 1) n) (eqb (key b i) x) (eqb (id b i) y) refl
    where
      go : count_in (set_from b x (i + 1) n) y k ≡ count_from b x y k (i + 1) n → (s t : Bool) → eqb (id b i) y ≡ t
          → count_in (cond s (entry_at b i ∷ set_from b x (i + 1) n) (set_from b x (i + 1) n)) y k
          ≡ cond (s && t) (count_at b i k) (count_from b x y k (i + 1) n)
      go later true true e = simp e (counts_any b i k)
      go later true false e = simp e later
      go later false t e = later

pub set_counts : (b : List ℕ) (kind : Kind) (x y k : ℕ) → count_in (set_of b kind x) y k ≡ count b kind x y k
unfolding set_of count
set_counts b kind x y k = set_count b x y k (from b kind) (size b kind)
