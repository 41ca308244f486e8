-- One record goes, comes or has other counts: what a splice of at most one record for at most one does to the counts.
use Prim.Native.Nat.{ℕ, ◌+◌, ◌*◌, ◌<◌, ◌≤◌}
use mathlib.Core.Path.{◌≡◌, refl, ◌∙◌, sym}
use mathlib.Core.List.{List}
use mathlib.Core.Logic.{⊎_elim}
use native.Mathlib.Omega.{arith}
use lib.ListN.{get_or}
use Rattle.index.specs.declared.Kind.{Kind}
use Rattle.index.specs.Letters.{letter_count}
use Rattle.index.specs.Block.{name_count, from, size, records, Of, key, id, count_at, Good, count}
use Rattle.index.specs.work.Bytes.{Spliced, Fits}
use Rattle.index.specs.work.Checks.{Record}
use Rattle.index.specs.Message.{Change, Changed, taken, added}
use Rattle.index.specs.work.Places.{spot, At, Gap}
use Rattle.index.proofs.laws.message.HalfLetters.{Hits, hits, half_of, change_none}
use Rattle.index.proofs.laws.Range.{lt_or_le}
use Rattle.index.proofs.laws.block.Records.{one_kind, rises, count_at_lem, count_none}
use Rattle.index.proofs.laws.block.Splice.{spliced_records, spliced_good, spliced_stays, spliced_gone, spliced_of}

same_at : {K L : Kind} {x y x' y' i : ℕ} {b : List ℕ} → At b K x y i → At b L x' y' i → (K ≡ L) × (x ≡ x') × (y ≡ y')
same_at {K} {L} {i = i} {b} a c =
    (one_kind K L b i a.of c.of, sym a.has_key ∙ c.has_key, sym a.has_id ∙ c.has_id)

pub gap_none : {K : Kind} {x y : ℕ} {b : List ℕ} {j : ℕ} → Gap b K x y j → (i : ℕ) → At b K x y i → ⊥
gap_none {j = j} g i a =
    ⊎_elim (λ l. omega (arith, g.before i a.of l, a.has_key, a.has_id))
    (λ l. omega (arith, g.after i a.of l, a.has_key, a.has_id))
    (lt_or_le i j)

-- The n records from number j on, none or one, are those of this kind, key and id, with these counts.
pub record Old (b : List ℕ) (K : Kind) (x y j n : ℕ) (counts : ℕ → ℕ) : Type 0 where
  pub low : from b K ≤ j
  pub high : j + n ≤ from b K + size b K
  pub before : (i : ℕ) → Of b K i → i < j → spot b i < name_count * x + y
  pub after : (i : ℕ) → Of b K i → j + n ≤ i → name_count * x + y < spot b i
  pub each : (i : ℕ) → j ≤ i → i < j + n → At b K x y i
  pub are : (k : ℕ) → count b K x y k ≡ counts k

pub old_one : {b : List ℕ} {K : Kind} {x y j : ℕ} → Good b → At b K x y j → Old b K x y j 1 (count_at b j)
old_one {b} {K} {x} {y} {j} g a =
    record {
      low = a.of.0;
      high = omega (arith, a.of.1);
      before = λ i o h. omega (arith, rises b g K i j h o a.of, a.has_key, a.has_id);
      after = λ i o h. omega (arith, rises b g K j i (omega arith) a.of o, a.has_key, a.has_id);
      each = λ i l h. let e : i ≡ j = omega arith in rw e a;
      are = λ k. count_at_lem g K x y j k a;
    }

pub old_none : {b : List ℕ} {K : Kind} {x y j : ℕ} → Gap b K x y j → Old b K x y j 0 (λ _. 0)
old_none {b} {K} {x} {y} {j} g =
    record {
      low = g.low;
      high = omega (arith, g.high);
      before = g.before;
      after = λ i o h. g.after i o (omega arith);
      each = λ i l h. absurd (omega arith);
      are = λ k. count_none b K x y k (gap_none g);
    }

-- The m records from number j on, none or one, are records of this kind, key and id, with these counts.
pub record New (b : List ℕ) (K : Kind) (x y j m : ℕ) (counts : ℕ → ℕ) : Type 0 where
  pub few : m ≤ 1
  pub each : (i : ℕ) → j ≤ i → i < j + m → Record b K i × (key b i ≡ x) × (id b i ≡ y)
  pub are : 0 < m → (k : ℕ) → count_at b j k ≡ counts k
  pub none : m ≡ 0 → (k : ℕ) → counts k ≡ 0

pub new_one : {b : List ℕ} {K : Kind} {x y j : ℕ} → Record b K j → key b j ≡ x → id b j ≡ y → New b K x y j 1 (count_at b j)
new_one {b} {K} {x} {y} {j} r p q =
    record {
      few = omega arith;
      each = λ i l h. let e : i ≡ j = omega arith in rw e (r, p, q);
      are = λ _ k. refl;
      none = λ z. absurd (omega arith);
    }

pub new_none : (b : List ℕ) (K : Kind) (x y j : ℕ) → New b K x y j 0 (λ _. 0)
new_none b K x y j =
    record { few = omega arith; each = λ i l h. absurd (omega arith); are = λ z. absurd (omega arith); none = λ _ k. refl }

module _
    {K : Kind}
    {x y j n m : ℕ}
    {old new : ℕ → ℕ}
    {b b' : List ℕ}
    (g : Good b)
    (s : Spliced K j n m b b')
    (bytes : (t : ℕ) → get_or b' t 0 < 256)
    (o : Old b K x y j n old)
    (w : New b' K x y j m new) where
  fits : Fits K j n m b b'
  fits =
      record {
        low = o.low;
        high = o.high;
        each = λ i l h. (w.each i l h).0;
        rising = λ i l h. absurd (omega (arith, w.few));
        lower = λ i i' p h l k. omega (arith, o.before i p h, (w.each i' l k).1, (w.each i' l k).2);
        upper = λ i i' p h l k. omega (arith, o.after i p h, (w.each i' l k).1, (w.each i' l k).2);
      }

  good : Good b'
  good = spliced_good g s fits bytes

  at : (i : ℕ) → j ≤ i → i < j + m → At b' K x y i
  at i l h =
      record { of = spliced_of g s fits bytes i l h; has_key = (w.each i l h).1; has_id = (w.each i l h).2 }

  pub changed_records : records b' + n ≡ records b + m
  changed_records = (spliced_records g s fits bytes).0

  -- The counts of the record then, where it was there or is.
  own : 0 < n + m → (k : ℕ) → count b' K x y k ≡ new k
  own some k =
      ⊎_elim (λ l. count_at_lem good K x y j k (at j (omega arith) (omega arith)) ∙ w.are l k)
      (λ (l : m ≤ 0).
      spliced_gone g s fits bytes K x y k j (omega arith) (omega arith) (o.each j (omega arith) (omega arith))
      (λ i p q a. omega arith)
      ∙ sym (w.none (omega arith) k))
      (lt_or_le 0 m)

  -- Those of every other record.
  other : (L : Kind) (x' y' k : ℕ) → ((K ≡ L) × (x ≡ x') × (y ≡ y') → ⊥) → count b' L x' y' k ≡ count b L x' y' k
  other L x' y' k ne =
      spliced_stays g s fits bytes L x' y' k (λ i l h a. ne (same_at (o.each i l h) a)) (λ i l h a. ne (same_at (at i l h) a))

  pub changed_is : (c : Change) → Hits (half_of c) K x y → 0 < n + m
      → ((k : ℕ) → k < letter_count → new k + taken c K x y k ≡ old k + added c K x y k) → Changed c b b'
  changed_is c hit some step =
      record {
        good = good;
        same_length = s.same_length;
        counts =
            λ L x' y' k l.
            ⊎_elim
            (λ (e : Hits (half_of c) L x' y').
            let p : K ≡ L = sym hit.0 ∙ e.0 in
            let q : x ≡ x' = sym hit.1 ∙ e.1 in
            let r : y ≡ y' = sym hit.2 ∙ e.2 in
            rw (← p, ← q, ← r) (omega (arith, own some k, o.are k, step k l)))
            (λ ne.
            omega
            (arith, other L x' y' k (λ e. ne (hit.0 ∙ e.0, hit.1 ∙ e.1, hit.2 ∙ e.2)), change_none c L x' y' k ne))
            (hits (half_of c) L x' y');
      }
