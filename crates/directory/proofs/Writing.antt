-- The entries of a part are written, from the first on, and those of the three parts one after the other.
use Prim.Native.Nat.{ℕ, ◌+◌, ◌<◌, ◌≤◌}
use mathlib.Core.Path.{◌≡◌, refl, ◌∙◌}
use mathlib.Core.List.{List}
use mathlib.Core.Logic.{⊎_elim}
use native.Mathlib.Nat.{eq-or-lt_of_le}
use native.Mathlib.Omega.{arith}
use lib.ListN.{length, get_or}
use Rattle.index.specs.declared.Kind.{Kind}
use Rattle.index.specs.declared.Kind.TheVariants.{Membership, Permission, Filter}
use Rattle.index.specs.Block.{from, size, place, key}
use Rattle.index.proofs.laws.block.Checked.{each_kind}
use Rattle.index.proofs.laws.Range.{lt_or_le}
use Rattle.directory.specs.Directory.{part_length, directory_length, part_start, Lowest, BeginsAt, Own}
use Rattle.directory.specs.work.Entries.{Outside, Put, Entries, Filled}

-- ---- a run of entries

-- ---- a part, run by run: one for each key

-- The entries below n are the places of the first records not below.
abbrev Places : List ℕ → ℕ → ℕ → List ℕ → ℕ → ℕ → Type 0
Places b lo hi d at n = (y : ℕ) → y < n → (r : ℕ) × Lowest b lo hi y r × (get_or d (at + y) 0 ≡ place r)

-- Of the records lo to hi - 1 those before i are through: their keys are below x, the others no lower than the name before x, and the
-- entries below x are written.
pub record Through (b : List ℕ) (lo hi at : ℕ) (d₀ d : List ℕ) (i x : ℕ) : Type 0 where
  pub named : x ≤ 1024
  pub low : lo ≤ i
  pub below : (j : ℕ) → lo ≤ j → j < i → key b j < x
  pub above : (j : ℕ) → i ≤ j → j < hi → x ≤ key b j + 1
  pub rest : Outside at (at + part_length) d₀ d
  pub places : Places b lo hi d at x

pub through_none : (b : List ℕ) (lo hi at : ℕ) (d : List ℕ) → Through b lo hi at d d lo 0
through_none b lo hi at d = record {
  named = omega arith;
  low = omega arith;
  below = λ j l h. absurd (omega arith);
  above = λ j l h. omega arith;
  rest = record { same_length = refl; before = λ t h. refl; after = λ t h. refl };
  places = λ y h. absurd (omega arith);
}

module _ {b : List ℕ} {lo hi at : ℕ} {d₀ d : List ℕ} {i x : ℕ} (p : Through b lo hi at d₀ d i x) where
  -- One more record of a key that is through.
  pub through_same : i < hi → key b i < x → Through b lo hi at d₀ d (i + 1) x
  through_same h k = record {
    named = p.named;
    low = omega (arith, p.low);
    below =
        λ j l m.
        ⊎_elim (λ (e : j ≡ i). rw e k) (λ q. p.below j l q) (eq-or-lt_of_le {n = j} {m = i} (omega arith));
    above = λ j l m. p.above j (omega arith) m;
    rest = p.rest;
    places = p.places;
  }

  -- A run up to the name n, for record i or, where it is hi, for the end.
  module _ {n v : ℕ} {d' : List ℕ} (l : x ≤ n) (few : n ≤ part_length) (put : Put (at + x) (at + n) v d d') (is : v ≡ place i) where
    pub rest_put : Outside at (at + part_length) d₀ d'
    rest_put = record {
      same_length = put.rest.same_length ∙ p.rest.same_length;
      before = λ t h. put.rest.before t (omega arith) ∙ p.rest.before t h;
      after = λ t h. put.rest.after t (omega arith) ∙ p.rest.after t h;
    }

    pub places_put : i ≤ hi → ((j : ℕ) → i ≤ j → j < hi → n ≤ key b j + 1) → Places b lo hi d' at n
    places_put h later y k =
        ⊎_elim
        (λ q. let (r, low, e) = p.places y q in (r, low, put.rest.before (at + y) (omega arith) ∙ e))
        (λ q. (
          i,
          record {
            low = p.low;
            high = h;
            below = λ j m o. omega (arith, p.below j m o);
            above = λ j m o. omega (arith, later j m o);
          },
          put.inside (at + y) (omega arith) (omega arith) ∙ is,
        ))
        (lt_or_le y x)

-- The first record of a key: the entries up to its key are its place.
pub through_more : {b : List ℕ} {lo hi at : ℕ} {d₀ d : List ℕ} {i x : ℕ}
    → ((r s : ℕ) → lo ≤ r → r ≤ s → s < hi → key b r ≤ key b s) → Through b lo hi at d₀ d i x → {v : ℕ} {d' : List ℕ} → i < hi
    → x ≤ key b i → key b i < 1024 → Put (at + x) (at + (key b i + 1)) v d d' → v ≡ place i
    → Through b lo hi at d₀ d' (i + 1) (key b i + 1)
through_more {b} {hi = hi} {i = i} rise p h k small put is =
    let later : (j : ℕ) → i ≤ j → j < hi → key b i + 1 ≤ key b j + 1 = λ j l m. omega (arith, rise i j p.low l m) in
    record {
      named = omega arith;
      low = omega (arith, p.low);
      below =
          λ j l m.
          ⊎_elim (λ (e : j ≡ i). rw e (omega arith)) (λ q. omega (arith, p.below j l q)) (eq-or-lt_of_le {n = j} {m = i} (omega arith));
      above = λ j l m. later j (omega arith) m;
      rest = rest_put p (omega arith) (omega arith) put is;
      places = places_put p (omega arith) (omega arith) put is (omega arith) later;
    }

-- All records are through: the other entries are the part's end.
pub part_filled : {b : List ℕ} (kind : Kind) {lo hi at : ℕ} → lo ≡ from b kind → hi ≡ from b kind + size b kind → at ≡ part_start kind
    → {d₀ d d' : List ℕ} {x v : ℕ} → Through b lo hi at d₀ d hi x → Put (at + x) (at + part_length) v d d' → v ≡ place hi
    → Filled b kind d₀ d'
unfolding BeginsAt
part_filled {b} kind first last start {x = x} p put is =
    let l : x ≤ part_length = omega (arith, p.named) in
    let places = places_put p l (omega arith) put is (omega arith) (λ j l m. absurd (omega arith)) in
    record {
      rest = rw start at (rest_put p l (omega arith) put is);
      own = λ y h. rw (← start, ← last, ← first) (places y h);
    }

-- ---- the three parts

-- The entries of a kind stay where nothing is written.
kept : (b d d' : List ℕ) (kind : Kind)
    → ((t : ℕ) → part_start kind ≤ t → t < part_start kind + part_length → get_or d' t 0 ≡ get_or d t 0) → Entries b d kind
    → Entries b d' kind
kept b d d' kind same own x l = rw (same (part_start kind + x) (omega arith) (omega arith)) (own x l)

pub own_filled : {b d₀ d₁ d₂ d₃ : List ℕ} → length d₀ ≡ directory_length → Filled b Membership d₀ d₁ → Filled b Permission d₁ d₂
    → Filled b Filter d₂ d₃ → Own b d₃
unfolding part_start
own_filled {b} {d₁ = d₁} {d₂ = d₂} {d₃ = d₃} sized m p f = record {
  whole = f.rest.same_length ∙ p.rest.same_length ∙ m.rest.same_length ∙ sized;
  each =
      each_kind (λ kind. Entries b d₃ kind)
      (kept b d₁ d₃ Membership (λ t l h. f.rest.before t (omega arith) ∙ p.rest.before t (omega arith)) m.own)
      (kept b d₂ d₃ Permission (λ t l h. f.rest.before t (omega arith)) p.own) f.own;
}
