-- The set of a kind and key of a good block is a set.
use Prim.Native.Nat.{ℕ, suc, ◌+◌, ◌*◌, ◌≤◌}
use mathlib.Core.Path.{◌≡◌, refl, ◌∙◌}
use mathlib.Core.Bool.{Bool, true, false, cond}
use mathlib.Core.List.{List, [], ◌∷◌}
use mathlib.Core.Logic.{⊎_elim}
use native.Mathlib.Omega.{arith}
use borrow.Author.Tests.{eqb-true}
use lib.Dec.{eqb}
use Rattle.index.specs.declared.Kind.{Kind}
use Rattle.index.specs.Letters.{letter_count}
use Rattle.index.specs.Block.{greatest_count, place, key, id, from, size, Of, count_at, Good}
use Rattle.index.specs.Text.{Entry, entry_at, set_from, set_of, IsEntry, IsSet}
use Rattle.index.proofs.laws.Range.{lt_or_le}
use Rattle.index.proofs.laws.block.Bytes.{number_small, count_number, count_out}
use Rattle.index.proofs.laws.block.Records.{of_records, rises}
use Rattle.index.proofs.laws.text.Writes.{counts_long}
use Rattle.index.proofs.laws.text.SetCounts.{counts_any}

-- Records with rising ids, at least lo.
pub data Rises (kind : Kind) : ℕ → List Entry → Type 0 where
  none : {lo : ℕ} → Rises kind lo []
  next : {lo : ℕ} {e : Entry} {es : List Entry} → IsEntry kind e → lo ≤ e.id → Rises kind (e.id + 1) es → Rises kind lo (e ∷ es)

rises_set : {kind : Kind} {lo : ℕ} {es : List Entry} → Rises kind lo es → IsSet kind es
rises_set none = IsSet.empty
rises_set (next h l none) = IsSet.one h
rises_set (next h l (next {e = f} k m r)) = IsSet.more {f = f} h (omega arith) (rises_set (next k m r))

module _ {b : List ℕ} (g : Good b) (kind : Kind) where
  count_fits : (i k : ℕ) → count_at b i k ≤ greatest_count
  count_fits i k =
      ⊎_elim (λ h. omega (arith, count_number b i k h, number_small b (place i + 4 + 2 * k) g.bytes)) (λ h. omega (arith, count_out b i k h))
      (lt_or_le k letter_count)

  is_entry : (i : ℕ) → Of b kind i → IsEntry kind (entry_at b i)
  is_entry i o =
      let l = of_records kind b i o in
      let (k, h, c) = g.counted i l in
      record {
        named = g.ids i l;
        long = counts_long b i;
        fits = λ k. omega (arith, counts_any b i k, count_fits i k);
        counted = (k, omega (arith, counts_any b i k));
        allowed = λ k m. counts_any b i k ∙ g.allowed kind i o k m;
      }

  from_rises : (x lo i n : ℕ) → from b kind ≤ i → i + n ≤ from b kind + size b kind
      → ((j : ℕ) → i ≤ j → Of b kind j → key b j ≡ x → lo ≤ id b j) → Rises kind lo (set_from b x i n)
  unfolding set_from
  from_rises x lo i ℕ.zero l h f = none
  from_rises x lo i (suc n) l h f =
      go (eqb (key b i) x) refl
      (λ e. from_rises x (id b i + 1) (i + 1) n (omega arith) (omega arith)
      (λ j k o p. omega (arith, rises b g kind i j (omega arith) (l, omega arith) o)))
      (from_rises x lo (i + 1) n (omega arith) (omega arith) (λ j k o p. f j (omega arith) o p))
    where
      go : (t : Bool) → eqb (key b i) x ≡ t → (key b i ≡ x → Rises kind (id b i + 1) (set_from b x (i + 1) n))
          → Rises kind lo (set_from b x (i + 1) n)
          → Rises kind lo (cond (eqb (key b i) x) (entry_at b i ∷ set_from b x (i + 1) n) (set_from b x (i + 1) n))
      go true e r s =
          let k = eqb-true (key b i) x e in
          simp e (next (is_entry i (l, omega arith)) (f i (omega arith) (l, omega arith) k) (r k))
      go false e r s = simp e s

  pub is_set : (x : ℕ) → IsSet kind (set_of b kind x)
  unfolding set_of
  is_set x = rises_set (from_rises x 0 (from b kind) (size b kind) (omega arith) (omega arith) (λ j k o p. omega arith))
