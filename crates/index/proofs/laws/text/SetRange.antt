-- The set of a key is a range of the records of its part.
use Prim.Native.Nat.{ℕ, suc, ◌+◌, ◌-◌, ◌*◌, ◌<◌, ◌≤◌}
use mathlib.Core.Path.{◌≡◌, refl, ap, ◌∙◌}
use mathlib.Core.List.{List, [], ◌∷◌}
use mathlib.Core.Logic.{⊎_elim}
use native.Mathlib.Omega.{arith}
use borrow.Author.Tests.{eq-eqb, ne_eqb}
use lib.ListN.{length}
use Rattle.index.specs.declared.Kind.{Kind}
use Rattle.index.specs.Block.{name_count, key, id, from, size, Of, Good}
use Rattle.index.specs.Text.{Entry, entry_at, set_from, set_of}
use Rattle.index.specs.work.Edits.{Lowest}
use Rattle.index.specs.work.Written.{entries_from}
use Rattle.index.proofs.laws.Range.{lt_or_le}
use Rattle.index.proofs.laws.block.Records.{of_records}

pub entries_long : (b : List ℕ) (i n : ℕ) → length (entries_from b i n) ≡ n
entries_long b i ℕ.zero = refl
entries_long b i (suc n) = ap suc (entries_long b (i + 1) n)

module _ (b : List ℕ) (x : ℕ) where
  -- Record i is of the set, or is not.
  pub set_here : (i n : ℕ) → key b i ≡ x → set_from b x i (suc n) ≡ entry_at b i ∷ set_from b x (i + 1) n
  unfolding set_from
  set_here i n e = simp (eq-eqb (key b i) x e)

  set_skip : (i n : ℕ) → (key b i ≡ x → ⊥) → set_from b x i (suc n) ≡ set_from b x (i + 1) n
  unfolding set_from
  set_skip i n e = simp (ne_eqb (key b i) x e)

  set_none : (i n : ℕ) → ((m : ℕ) → i ≤ m → m < i + n → key b m ≡ x → ⊥) → set_from b x i n ≡ []
  unfolding set_from
  set_none i ℕ.zero h = refl
  set_none i (suc n) h =
      set_skip i n (h i (omega arith) (omega arith)) ∙ set_none (i + 1) n (λ m l k. h m (omega arith) (omega arith))

  pub set_all : (i n d : ℕ) → d ≤ n → ((m : ℕ) → i ≤ m → m < i + d → key b m ≡ x)
      → ((m : ℕ) → i + d ≤ m → m < i + n → key b m ≡ x → ⊥) → set_from b x i n ≡ entries_from b i d
  set_all i n ℕ.zero l h k = set_none i n (λ m a. k m (omega arith))
  set_all i ℕ.zero (suc d) l h k = absurd (omega arith)
  set_all i (suc n) (suc d) l h k =
      set_here i n (h i (omega arith) (omega arith))
      ∙ ap (λ (es : List Entry). entry_at b i ∷ es)
      (set_all (i + 1) n d (omega arith) (λ m a c. h m (omega arith) (omega arith)) (λ m a c. k m (omega arith) (omega arith)))

  -- Those of the n records from number i on: the d from number lo on, which is s further.
  pub set_from_lem : (s i n lo d : ℕ) → lo ≡ i + s → lo + d ≤ i + n → ((m : ℕ) → i ≤ m → m < lo → key b m ≡ x → ⊥)
      → ((m : ℕ) → lo ≤ m → m < lo + d → key b m ≡ x) → ((m : ℕ) → lo + d ≤ m → m < i + n → key b m ≡ x → ⊥)
      → set_from b x i n ≡ entries_from b lo d
  set_from_lem ℕ.zero i n lo d e l f h k =
      let z : i ≡ lo = omega arith in
      set_all i n d (omega arith) (λ m a c. h m (omega arith) (omega arith)) (λ m a c. k m (omega arith) (omega arith))
      ∙ ap (λ (j : ℕ). entries_from b j d) z
  set_from_lem (suc s) i ℕ.zero lo d e l f h k = absurd (omega arith)
  set_from_lem (suc s) i (suc n) lo d e l f h k =
      set_skip i n (f i (omega arith) (omega arith))
      ∙ set_from_lem s (i + 1) n lo d (omega arith) (omega arith) (λ m a c. f m (omega arith) c) h (λ m a c. k m a (omega arith))

-- The set of the key x lies between the first record with that key or a higher one and the first with a higher one.
module _ {b : List ℕ} (g : Good b) (kind : Kind) (x lo hi : ℕ) (p : Lowest b kind (name_count * x) lo) (q : Lowest b kind (name_count * (x + 1)) hi) where
  named : (i : ℕ) → Of b kind i → id b i < name_count
  named i o = g.ids i (of_records kind b i o)

  pub bounds : lo ≤ hi
  bounds =
      ⊎_elim
      (λ h.
      let o : Of b kind hi = omega (arith, p.high, q.low) in
      absurd (omega (arith, p.below hi o h, q.above hi o (omega arith))))
      (λ h. h) (lt_or_le hi lo)

  pub key_below : (i : ℕ) → Of b kind i → i < lo → key b i < x
  key_below i o h = omega (arith, p.below i o h)

  pub key_within : (i : ℕ) → lo ≤ i → i < hi → key b i ≡ x
  key_within i l h =
      let o : Of b kind i = omega (arith, p.low, q.high) in
      omega (arith, named i o, p.above i o l, q.below i o h)

  pub key_above : (i : ℕ) → Of b kind i → hi ≤ i → x < key b i
  key_above i o l = omega (arith, named i o, q.above i o l)

  pub set_range : set_of b kind x ≡ entries_from b lo (hi - lo)
  unfolding set_of
  set_range =
      let s = bounds in
      set_from_lem b x (lo - from b kind) (from b kind) (size b kind) lo (hi - lo) (omega (arith, p.low)) (omega (arith, q.high))
      (λ m l h e. omega (arith, p.high, key_below m (omega (arith, p.high)) h))
      (λ m l h. key_within m l (omega arith))
      (λ m l h e. omega (arith, q.low, key_above m (omega (arith, q.low)) (omega arith)))

  pub set_long : length (set_of b kind x) ≡ hi - lo
  set_long = ap length set_range ∙ entries_long b lo (hi - lo)
