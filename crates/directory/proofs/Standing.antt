-- The test of a part: its entries rise from its beginning to its end, and its records lie between them, exactly where the entries are the
-- block's.
use Prim.Native.Nat.{ℕ, zero, suc, ◌+◌, ◌-◌, ◌<◌, ◌≤◌}
use mathlib.Core.Path.{◌≡◌, refl}
use mathlib.Core.Bool.{Bool, true, false, ◌&&◌}
use mathlib.Core.List.{List}
use mathlib.Core.Logic.{⊎_elim}
use native.Mathlib.Nat.{eq-or-lt_of_le}
use native.Mathlib.Omega.{arith}
use borrow.Author.Count.{below_more}
use borrow.Author.Tests.{leb-true, leb-false}
use lib.Dec.{leb}
use lib.ListN.{length, get_or}
use Rattle.index.specs.declared.Kind.{Kind}
use Rattle.index.specs.declared.Kind.TheVariants.{Membership, Permission, Filter}
use Rattle.index.specs.Block.{from, size, place, key, Good}
use Rattle.index.specs.work.Checks.{Says}
use Rattle.index.proofs.laws.block.Checked.{each_kind}
use Rattle.index.proofs.laws.Range.{lt_or_le}
use Rattle.directory.specs.Directory.{directory_length, part_start, entry, Lowest, StartsAt, BeginsAt, Own}
use Rattle.directory.specs.work.Entries.{Steps, Entries, Right}
use Rattle.directory.proofs.Numbered.{key_name, keys_rise}
use Rattle.directory.proofs.OneDirectory.{lowest_rise}

-- ---- what the tests say, entry by entry and record by record

-- One more entry, and whether the next is not below it.
pub steps_more : (d : List ℕ) (at x : ℕ) (fine : Bool) → Says (Steps d at x) fine
    → Says (Steps d at (x + 1)) (fine && leb (get_or d (at + x) 0) (get_or d (at + x + 1) 0))
steps_more d at x false said = λ p. said (λ y h. p y (omega arith))
steps_more d at x true said = go (leb (get_or d (at + x) 0) (get_or d (at + x + 1) 0)) refl
  where
    go : (t : Bool) → leb (get_or d (at + x) 0) (get_or d (at + x + 1) 0) ≡ t → Says (Steps d at (x + 1)) t
    go true e = below_more (λ y. get_or d (at + y) 0 ≤ get_or d (at + y + 1) 0) x said (leb-true _ _ e)
    go false e = λ p. absurd (omega (arith, p x (omega arith), leb-false (get_or d (at + x) 0) (get_or d (at + x + 1) 0) e))

-- ---- what they come to

-- Entries that never fall from one to the next never fall.
never_fall : (d : List ℕ) (at : ℕ) → Steps d at 1024 → (x y : ℕ) → x ≤ y → y ≤ 1024 → get_or d (at + x) 0 ≤ get_or d (at + y) 0
never_fall d at steps x zero l h = let e : x ≡ 0 = omega arith in rw e (omega arith)
never_fall d at steps x (suc y) l h =
    ⊎_elim (λ e. rw e (omega arith))
    (λ k.
    let e : at + y + 1 ≡ at + suc y = omega arith in
    omega (arith, never_fall d at steps x y (omega arith) (omega arith), rw e at (steps y (omega arith))))
    (eq-or-lt_of_le l)

-- Records whose keys rise have a first that is not below x, or all are below.
pub lowest_of : (b : List ℕ) (lo n x : ℕ) → ((r s : ℕ) → lo ≤ r → r ≤ s → s < lo + n → key b r ≤ key b s)
    → (i : ℕ) × Lowest b lo (lo + n) x i
lowest_of b lo zero x rise = (
  lo,
  record {
    low = omega arith;
    high = omega arith;
    below = λ j l h. absurd (omega arith);
    above = λ j l h. absurd (omega arith);
  },
)
lowest_of b lo (suc n) x rise =
    ⊎_elim
    (λ less. (
      lo + suc n,
      record {
        low = omega arith;
        high = omega arith;
        below = λ j l h. omega (arith, rise j (lo + n) l (omega arith) (omega arith));
        above = λ j l h. absurd (omega arith);
      },
    ))
    (λ not_less.
    let (i, p) = lowest_of b lo n x (λ r s l k h. rise r s l k (omega arith)) in (
      i,
      record {
        low = p.low;
        high = omega (arith, p.high);
        below = p.below;
        above =
            λ j l h.
            ⊎_elim (λ (e : j ≡ lo + n). rw e not_less) (λ k. p.above j l k) (eq-or-lt_of_le {n = j} {m = lo + n} (omega arith));
      },
    ))
    (lt_or_le (key b (lo + n)) x)

module _ {b : List ℕ} (g : Good b) (d : List ℕ) (kind : Kind) where
  abbrev at : ℕ
  at = part_start kind

  abbrev lo : ℕ
  lo = from b kind

  abbrev hi : ℕ
  hi = from b kind + size b kind

  module _ (r : Right b d kind) where
    up : (x y : ℕ) → x ≤ y → y ≤ 1024 → get_or d (at + x) 0 ≤ get_or d (at + y) 0
    up = never_fall d at r.rises.steps

    -- The entry for x is no more than the place of the first record not below x,
    no_more : (x i : ℕ) → x ≤ 1024 → StartsAt b kind x i → entry d kind x ≤ place i
    no_more x i h p =
        ⊎_elim (λ e. rw e (omega (arith, up x 1024 h (omega arith), r.rises.last)))
        (λ l.
        let named = key_name g kind {i = i} (p.low, l) in
        omega (arith, up x (key b i) (p.above i (omega arith) l) (omega arith), (r.stands i p.low l).0))
        (eq-or-lt_of_le p.high)

    -- and no less: the record before it, if there is one, ends there.
    no_less : (x i : ℕ) → x ≤ 1024 → StartsAt b kind x i → place i ≤ entry d kind x
    no_less x i h p =
        ⊎_elim
        (λ (e : lo ≡ i).
        let z : at + 0 ≡ at = omega arith in
        omega (arith, rw z at (up 0 x (omega arith) h), r.rises.first))
        (λ l.
        let j : ℕ = i - 1 in
        let s : at + key b j + 1 ≡ at + (key b j + 1) = omega arith in
        let k = p.below j (omega arith) (omega arith) in
        omega (arith, rw s at (r.stands j (omega arith) (omega (arith, p.high))).1, up (key b j + 1) x (omega arith) h))
        (eq-or-lt_of_le p.low)

    right_entries : Entries b d kind
    unfolding BeginsAt
    right_entries x h =
        let (i, p) = lowest_of b lo (size b kind) x (λ r s l k h. keys_rise g kind r s k (omega arith) (omega arith)) in
        (i, p, omega (arith, no_more x i (omega arith) p, no_less x i (omega arith) p))

  entries_right : Entries b d kind → Right b d kind
  unfolding BeginsAt
  entries_right own = record {
    rises = record {
      steps =
          λ x h.
          let (i, p, e) = own x (omega arith) in
          let (j, q, f) = own (x + 1) (omega arith) in
          let s : at + x + 1 ≡ at + (x + 1) = omega arith in
          rw s (omega (arith, e, f, lowest_rise {x = x} {y = x + 1} (omega arith) p q));
      first =
          let (i, p, e) = own 0 (omega arith) in
          let z : at + 0 ≡ at = omega arith in
          let is : i ≡ lo =
          ⊎_elim (λ l. absurd (omega (arith, p.below lo (omega arith) l))) (λ l. omega (arith, p.low)) (lt_or_le lo i) in
          rw z at (rw is at e);
      last =
          let (i, p, e) = own 1024 (omega arith) in
          let is : i ≡ hi =
          ⊎_elim (λ l. absurd (omega (arith, p.above i (omega arith) l, key_name g kind {i = i} (p.low, l))))
          (λ l. omega (arith, p.high)) (lt_or_le i hi) in
          rw is at e;
    };
    stands =
        λ j l h.
        let k = key_name g kind {i = j} (l, h) in
        let (i, p, e) = own (key b j) (omega arith) in
        let (n, q, f) = own (key b j + 1) (omega arith) in
        let s : at + key b j + 1 ≡ at + (key b j + 1) = omega arith in (
          ⊎_elim (λ m. absurd (omega (arith, p.below j l m))) (λ m. omega (arith, e)) (lt_or_le j i),
          rw s (⊎_elim (λ m. omega (arith, f)) (λ m. absurd (omega (arith, q.above j m h))) (lt_or_le j n)),
        );
  }

module _ {b : List ℕ} (g : Good b) {d : List ℕ} where
  pub right_own : length d ≡ directory_length → Right b d Membership → Right b d Permission → Right b d Filter → Own b d
  right_own sized m p f = record {
    whole = sized;
    each =
        each_kind (λ kind. Entries b d kind) (right_entries g d Membership m) (right_entries g d Permission p)
        (right_entries g d Filter f);
  }

  pub own_right : Own b d → (kind : Kind) → Right b d kind
  own_right own kind = entries_right g d kind (own.each kind)
