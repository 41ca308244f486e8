-- Where the records of a name are: by halves to the first of them, and on to the last.
use Prim.Native.Nat.{ℕ, ◌+◌, ◌-◌, ◌<◌, ◌≤◌}
use mathlib.Core.Path.{◌≡◌}
use mathlib.Core.List.{List}
use mathlib.Core.Logic.{◌⊎◌, ◌↔◌, inl, inr, ⊎_elim}
use native.Mathlib.Omega.{arith}
use native.Mathlib.Nat.{eq-or-lt_of_le}
use Rattle.index.specs.declared.Kind.{Kind}
use Rattle.index.specs.Block.{IsName, from, size, Of, key, Good}
use Rattle.index.proofs.laws.Range.{lt_or_le}
use Rattle.directory.specs.Directory.{StartsAt}
use Rattle.rights.specs.work.Lookup.{KeyBefore}
use Rattle.directory.proofs.Numbered.{keys_rise}

-- A step that is taken or not is no longer than itself.
pub no_more : {step key x t : ℕ} → (key < x → t ≡ step) × (x ≤ key → t ≡ 0) → t ≤ step
no_more {step} {key} {x} takes =
    ⊎_elim (λ l. omega (arith, takes.0 l)) (λ l. omega (arith, takes.1 l)) (lt_or_le key x)

-- A window on the records from first up to end: low is the first of them, or one whose key is below x; no record after the
-- window has a key below x.
pub record Window (b : List ℕ) (first end x low window : ℕ) : Type 0 where
  pub from_first : first ≤ low
  pub starts : (low ≡ first) ⊎ ((low < end) × (key b low < x))
  pub after : (j : ℕ) → low + window ≤ j → j < end → x ≤ key b j

-- No part has more records than the window that it begins with.
pub window_all : (b : List ℕ) (first end x window : ℕ) → end ≤ first + window → Window b first end x first window
window_all b first end x window few =
    record { from_first = omega arith; starts = inl (omega arith); after = λ j l h. absurd (omega arith) }

module _ {b : List ℕ} (g : Good b) (kind : Kind) {x : ℕ} (named : IsName x) {first end : ℕ} (is_first : first ≡ from b kind)
    (is_end : end ≡ from b kind + size b kind) where
  -- A key before the end that is below x is that of a record.
  below_end : {i r : ℕ} → KeyBefore b end i r → r < x → (i < end) × (key b i < x)
  below_end {i} {r} told less =
      ⊎_elim (λ l. (l, omega (arith, told.before l))) (λ l. absurd (omega (arith, told.past l))) (lt_or_le i end)

  module _ {low window : ℕ} (w : Window b first end x low window) where
    -- From a record on that is none below x, none is.
    rest : (i : ℕ) {r : ℕ} → low ≤ i → KeyBefore b end i r → x ≤ r → (j : ℕ) → i ≤ j → j < end → x ≤ key b j
    rest i l told not_less j s h =
        let k : x ≤ key b i = omega (arith, told.before (omega arith)) in
        omega (arith, keys_rise g kind i j s (omega (arith, w.from_first)) (omega (arith, w.from_first)))

    -- A step into the window, or none.
    pub halve : (step : ℕ) {r t : ℕ} → step + step ≤ window → KeyBefore b end (low + step) r
        → (r < x → t ≡ step) × (x ≤ r → t ≡ 0) → Window b first end x (low + t) (window - step)
    halve step {r} {t} half told takes =
        ⊎_elim
        (λ less.
        let p = below_end told less in
        rw (takes.0 less) (record {
          from_first = omega (arith, w.from_first);
          starts = inr p;
          after = λ j l h. w.after j (omega arith) h;
        }))
        (λ not_less.
        let later = rest (low + step) (omega arith) told not_less in
        let q : low + t ≡ low = omega (arith, takes.1 not_less) in
        rw q (record { from_first = w.from_first; starts = w.starts; after = λ j l h. later j (omega arith) h }))
        (lt_or_le r x)

    -- Of a window of one record the record itself is left.
    pub met : {r t : ℕ} → window ≤ 1 → KeyBefore b end low r → (r < x → t ≡ 1) × (x ≤ r → t ≡ 0) → StartsAt b kind x (low + t)
    met {r} {t} single told takes =
        ⊎_elim
        (λ less.
        let p = below_end told less in
        rw (takes.0 less) (record {
          low = omega (arith, w.from_first);
          high = omega (arith, p.0);
          below = λ j l h. omega (arith, p.1, keys_rise g kind j low (omega arith) (omega (arith, p.0)) (omega (arith, w.from_first, p.0)));
          above = λ j l h. w.after j (omega arith) (omega arith);
        }))
        (λ not_less.
        let later = rest low (omega arith) told not_less in
        let q : low + t ≡ low = omega (arith, takes.1 not_less) in
        let at_first : low ≡ first =
        ⊎_elim (λ e. e) (λ p. absurd (omega (arith, told.before p.0, p.1))) w.starts in
        rw q (record {
          low = omega arith;
          high = omega arith;
          below = λ j l h. absurd (omega arith);
          above = λ j l h. later j l (omega arith);
        }))
        (lt_or_le r x)

-- ---- on to the last

-- The records from where the name's start up to e are all its own.
abbrev pub Own : List ℕ → ℕ → ℕ → ℕ → Type 0
Own b x i e = (j : ℕ) → i ≤ j → j < e → key b j ≡ x

pub own_none : (b : List ℕ) (x i : ℕ) → Own b x i i
own_none b x i j l h = absurd (omega arith)

pub own_more : (b : List ℕ) (x i e : ℕ) → Own b x i e → key b e ≡ x → Own b x i (e + 1)
own_more b x i e own here j l h =
    ⊎_elim (λ q. rw q here) (λ q. own j l q) (eq-or-lt_of_le {n = j} {m = e} (omega arith))

module _ {b : List ℕ} (kind : Kind) (x i e : ℕ) (start : StartsAt b kind x i) where
  -- They are all of them where the next is not its own, or is none.
  pub keyed : Good b → i ≤ e → e ≤ from b kind + size b kind → Own b x i e
      → (e ≡ from b kind + size b kind) ⊎ (key b e ≡ x → ⊥) → (j : ℕ) → ((i ≤ j) × (j < e)) ↔ (Of b kind j × (key b j ≡ x))
  keyed g l h own stop j = (
    (λ p. ((omega (arith, start.low, p.0), omega (arith, p.1)), own j p.0 p.1)),
    (λ p. (
      ⊎_elim (λ q. absurd (omega (arith, start.below j p.0.0 q, p.1))) (λ q. q) (lt_or_le j i),
      ⊎_elim (λ q. q) (λ q. absurd (past j p.0 p.1 q)) (lt_or_le j e),
    )),
  )
    where
      past : (j : ℕ) → Of b kind j → key b j ≡ x → e ≤ j → ⊥
      past j of same q =
          ⊎_elim (λ z. omega (arith, of.1))
          (λ ne.
          let at : Of b kind e = (omega (arith, start.low), omega (arith, of.1)) in
          ne (omega (arith, start.above e l at.1, keys_rise g kind e j q at of)))
          stop

  -- By a directory: from where the name's records start up to where those of the next one do.
  pub keyed_by : StartsAt b kind (x + 1) e → (j : ℕ) → ((i ≤ j) × (j < e)) ↔ (Of b kind j × (key b j ≡ x))
  keyed_by next j = (
    (λ p. (
      (omega (arith, start.low, p.0), omega (arith, next.high, p.1)),
      let least = start.above j p.0 (omega (arith, next.high, p.1)) in
          omega (arith, next.below j (omega (arith, start.low, p.0)) p.1),
    )),
    (λ p. (
      ⊎_elim (λ q. absurd (omega (arith, start.below j p.0.0 q, p.1))) (λ q. q) (lt_or_le j i),
      ⊎_elim (λ q. q) (λ q. absurd (omega (arith, next.above j q p.0.1, p.1))) (lt_or_le j e),
    )),
  )
