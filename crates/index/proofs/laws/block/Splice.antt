-- Every edit of a block is a splice: m records come in the place of the n records of a kind from number j on.
use Prim.Native.Nat.{ℕ, ◌+◌, ◌-◌, ◌*◌, ◌<◌, ◌≤◌}
use mathlib.Core.Path.{◌≡◌, refl, sym, ap, subst, ◌∙◌}
use mathlib.Core.List.{List}
use mathlib.Core.Logic.{◌⊎◌, inl, inr, ⊎_elim}
use native.Mathlib.Omega.{arith}
use lib.ListN.{get_or}
use Rattle.index.specs.declared.Kind.{Kind}
use Rattle.index.specs.declared.Kind.TheVariants.{Membership, Permission, Filter}
use Rattle.index.specs.Letters.{letter_count}
use Rattle.index.specs.Block.{header_length, number, size, from, records, Of, place, key, id, count_at, Good, count, record_length}
use Rattle.index.specs.Message.{kind_number}
use Rattle.index.specs.work.Places.{spot, At}
use Rattle.index.specs.work.Checks.{Record}
use Rattle.index.specs.work.Bytes.{Spliced, Fits}
use Rattle.index.proofs.laws.Range.{lt_or_le}
use Rattle.index.proofs.laws.block.ThreeKinds.{apart}
use Rattle.index.proofs.laws.block.Together.{together}
use Rattle.index.proofs.laws.block.Bytes.{count_number, count_out}
use Rattle.index.proofs.laws.block.Records.{of_records, gap_in, rises, once, where_is, count_at_lem, count_none}

-- ---- records, wherever they stand

-- Record i' of b' says what record i of b says.
record Same (b : List ℕ) (i : ℕ) (b' : List ℕ) (i' : ℕ) : Type 0 where
  same_key : key b' i' ≡ key b i
  same_id : id b' i' ≡ id b i
  same_count : (k : ℕ) → count_at b' i' k ≡ count_at b i k

-- It does so where the numbers in its bytes are the same.
same_numbers : (b : List ℕ) (i : ℕ) (b' : List ℕ) (i' : ℕ)
    → ((o : ℕ) → o + 1 < record_length → number b' (place i' + o) ≡ number b (place i + o)) → Same b i b' i'
same_numbers b i b' i' e =
    record {
      same_key = let z : place i' + 0 ≡ place i' = omega arith in let w : place i + 0 ≡ place i = omega arith in rw (z, w) at (e 0 (omega arith));
      same_id = e 2 (omega arith);
      same_count = λ k. ⊎_elim (λ h. inside k h) (λ h. count_out b' i' k h ∙ sym (count_out b i k h)) (lt_or_le k letter_count);
    }
  where
    inside : (k : ℕ) → k < letter_count → count_at b' i' k ≡ count_at b i k
    inside k h =
        let z : place i' + (4 + 2 * k) ≡ place i' + 4 + 2 * k = omega arith in
        let w : place i + (4 + 2 * k) ≡ place i + 4 + 2 * k = omega arith in
        count_number b' i' k h ∙ ap (number b') (sym z) ∙ e (4 + 2 * k) (omega arith) ∙ ap (number b) w ∙ sym (count_number b i k h)

pub good_record : {b : List ℕ} → Good b → (K : Kind) (i : ℕ) → Of b K i → Record b K i
good_record {b} g K i o =
    let l = of_records K b i o in
    record { key_below = g.keys i l; id_below = g.ids i l; counted = g.counted i l; allowed = g.allowed K i o }

same_record : {b b' : List ℕ} {i i' : ℕ} {K : Kind} → Same b i b' i' → Record b K i → Record b' K i'
same_record e r =
    let c = r.counted in
    record {
      key_below = rw e.same_key r.key_below;
      id_below = rw e.same_id r.id_below;
      counted = (c.0, c.1, rw (e.same_count c.0) c.2);
      allowed = λ k l. e.same_count k ∙ r.allowed k l;
    }

-- ---- the two sides of a splice, which either block can be

record Sides (kind : Kind) (j n m : ℕ) (b b' : List ℕ) : Type 0 where
  below : (t : ℕ) → header_length ≤ t → t < place j → get_or b' t 0 ≡ get_or b t 0
  moved : (t : ℕ) → get_or b' (place (j + m) + t) 0 ≡ get_or b (place (j + n) + t) 0
  own : size b' kind + n ≡ size b kind + m
  other : (K : Kind) → (K ≡ kind → ⊥) → size b' K ≡ size b K
  low : from b kind ≤ j
  high : j + n ≤ from b kind + size b kind

-- Where a part of b' lies: before the part of the splice, as that part, or after it.
abbrev Lies : Kind → ℕ → ℕ → ℕ → List ℕ → List ℕ → Kind → Type 0
Lies kind j n m b b' K =
    ((from b' K ≡ from b K) × (size b' K ≡ size b K) × (from b K + size b K ≤ j))
    ⊎ ((K ≡ kind) × (from b' K ≡ from b K) × (size b' K + n ≡ size b K + m) × (from b K ≤ j) × (j + n ≤ from b K + size b K))
    ⊎ ((from b' K + n ≡ from b K + m) × (size b' K ≡ size b K) × (j + n ≤ from b K))

lies : (kind K : Kind) (j n m : ℕ) (b b' : List ℕ) → Sides kind j n m b b' → Lies kind j n m b b' K
unfolding kind_number
lies Membership Membership j n m b b' s = inr (inl (refl, refl, s.own, s.low, s.high))
lies Membership Permission j n m b b' s =
    inr (inr (omega (arith, s.own), s.other Permission (apart _ _ (λ e. omega arith)), omega (arith, s.high)))
lies Membership Filter j n m b b' s =
    let p = s.other Permission (apart _ _ (λ e. omega arith)) in
    inr (inr (omega (arith, s.own), s.other Filter (apart _ _ (λ e. omega arith)), omega (arith, s.high)))
lies Permission Membership j n m b b' s =
    inl (refl, s.other Membership (apart _ _ (λ e. omega arith)), omega (arith, s.low))
lies Permission Permission j n m b b' s =
    inr (inl (refl, s.other Membership (apart _ _ (λ e. omega arith)), s.own, s.low, s.high))
lies Permission Filter j n m b b' s =
    let p = s.other Membership (apart _ _ (λ e. omega arith)) in
    inr (inr (omega (arith, s.own), s.other Filter (apart _ _ (λ e. omega arith)), omega (arith, s.high)))
lies Filter Membership j n m b b' s =
    inl (refl, s.other Membership (apart _ _ (λ e. omega arith)), omega (arith, s.low))
lies Filter Permission j n m b b' s =
    inl (s.other Membership (apart _ _ (λ e. omega arith)), s.other Permission (apart _ _ (λ e. omega arith)), s.low)
lies Filter Filter j n m b b' s =
    let p = s.other Membership (apart _ _ (λ e. omega arith)) in
    let q = s.other Permission (apart _ _ (λ e. omega arith)) in
    inr (inl (refl, omega arith, s.own, s.low, s.high))

-- A record of b' is one before the splice, one that came, or one after it.
data View (kind : Kind) (j n m : ℕ) (b b' : List ℕ) (K : Kind) (i : ℕ) : Type 0 where
  before : i < j → Of b K i → Same b i b' i → View kind j n m b b' K i
  fresh : K ≡ kind → j ≤ i → i < j + m → View kind j n m b b' K i
  behind : (d : ℕ) → i ≡ j + m + d → Of b K (j + n + d) → Same b (j + n + d) b' i → View kind j n m b b' K i

module _ {kind : Kind} {j n m : ℕ} {b b' : List ℕ} (s : Sides kind j n m b b') where
  low_same : (i : ℕ) → i < j → Same b i b' i
  unfolding number
  low_same i h =
      same_numbers b i b' i
      (λ o l. omega (arith, s.below (place i + o) (omega arith) (omega arith), s.below (place i + o + 1) (omega arith) (omega arith)))

  high_number : (t : ℕ) → number b' (place (j + m) + t) ≡ number b (place (j + n) + t)
  unfolding number
  high_number t =
      let e : place (j + m) + (t + 1) ≡ place (j + m) + t + 1 = omega arith in
      let f : place (j + n) + (t + 1) ≡ place (j + n) + t + 1 = omega arith in
      let z : get_or b' (place (j + m) + t + 1) 0 ≡ get_or b (place (j + n) + t + 1) 0 = rw (← e, ← f) (s.moved (t + 1)) in
      omega (arith, s.moved t)

  high_same : (d i : ℕ) → i ≡ j + m + d → Same b (j + n + d) b' i
  high_same d i q =
      same_numbers b (j + n + d) b' i
      (λ o l.
      let e : place (j + m) + (record_length * d + o) ≡ place i + o = omega arith in
      let f : place (j + n) + (record_length * d + o) ≡ place (j + n + d) + o = omega arith in
      rw (← e, ← f) (high_number (record_length * d + o)))

  view : (K : Kind) (i : ℕ) → Of b' K i → View kind j n m b b' K i
  view K i o = go (lies kind K j n m b b' s) (lt_or_le i j) (lt_or_le i (j + m))
    where
      go : Lies kind j n m b b' K → (i < j) ⊎ (j ≤ i) → (i < j + m) ⊎ (j + m ≤ i) → View kind j n m b b' K i
      go (inl p) h k = before (omega arith) (omega arith) (low_same i (omega arith))
      go (inr (inl p)) (inl h) k = before h (omega arith) (low_same i h)
      go (inr (inl p)) (inr h) (inl k) = fresh p.0 h k
      go (inr (inl p)) (inr h) (inr k) =
          behind (i - (j + m)) (omega arith) (omega arith) (high_same (i - (j + m)) i (omega arith))
      go (inr (inr p)) h k =
          behind (i - (j + m)) (omega arith) (omega arith) (high_same (i - (j + m)) i (omega arith))

  own_part : (from b' kind ≡ from b kind) × (j + m ≤ from b' kind + size b' kind)
  own_part = go (lies kind kind j n m b b' s)
    where
      go : Lies kind j n m b b' kind → (from b' kind ≡ from b kind) × (j + m ≤ from b' kind + size b' kind)
      go (inl p) = omega (arith, s.own, s.low, s.high)
      go (inr (inl p)) = omega arith
      go (inr (inr p)) = omega (arith, s.own, s.low, s.high)

  flipped : Sides kind j m n b' b
  flipped =
      record {
        below = λ t l h. sym (s.below t l h);
        moved = λ t. sym (s.moved t);
        own = sym s.own;
        other = λ K ne. sym (s.other K ne);
        low = omega (arith, own_part, s.low);
        high = own_part.1;
      }

-- ---- the splice

abbrev None : ℕ → ℕ → List ℕ → Kind → ℕ → ℕ → Type 0
None j n b K x y = (i : ℕ) → j ≤ i → i < j + n → At b K x y i → ⊥

same_at : {b b' : List ℕ} {i i' : ℕ} {K : Kind} {x y : ℕ} → Same b i b' i' → Of b K i → At b' K x y i' → At b K x y i
same_at e o a = record { of = o; has_key = sym e.same_key ∙ a.has_key; has_id = sym e.same_id ∙ a.has_id }

module _ {kind : Kind} {j n m : ℕ} {b b' : List ℕ} (s : Sides kind j n m b b') (K : Kind) (x y : ℕ) where
  -- What the record of this kind, key and id is where it is none of those that came.
  old_at : None j m b' K x y → (i : ℕ) → At b' K x y i → (i' : ℕ) × At b K x y i' × Same b i' b' i × ((i' < j) ⊎ (j + n ≤ i'))
  old_at none i a = go (view s K i a.of)
    where
      go : View kind j n m b b' K i → (i' : ℕ) × At b K x y i' × Same b i' b' i × ((i' < j) ⊎ (j + n ≤ i'))
      go (before h o e) = (i, same_at e o a, e, inl h)
      go (fresh q l h) = absurd (none i l h a)
      go (behind d q o e) = (j + n + d, same_at e o a, e, inr (omega arith))

  missing : None j m b' K x y → ((i : ℕ) → At b K x y i → ⊥) → (i : ℕ) → At b' K x y i → ⊥
  missing none never i a = let r = old_at none i a in never r.0 r.1

module _
    {kind : Kind}
    {j n m : ℕ}
    {b b' : List ℕ}
    (g : Good b)
    (s : Spliced kind j n m b b')
    (f : Fits kind j n m b b')
    (bytes : (t : ℕ) → get_or b' t 0 < 256) where
  sides : Sides kind j n m b b'
  sides =
      record {
        below = s.below;
        moved = s.moved;
        own = s.own;
        other = s.other;
        low = f.low;
        high = f.high;
      }

  pub spliced_records : (records b' + n ≡ records b + m) × (j + m ≤ records b')
  spliced_records =
      go (lies kind Filter j n m b b' sides) (gap_in kind b (j + n) f.high) (gap_in kind b' (j + m) (own_part sides).1)
    where
      go : Lies kind j n m b b' Filter → j + n ≤ records b → j + m ≤ records b'
          → (records b' + n ≡ records b + m) × (j + m ≤ records b')
      go (inl p) h k = omega arith
      go (inr (inl p)) h k = omega arith
      go (inr (inr p)) h k = omega arith

  pub spliced_of : (i : ℕ) → j ≤ i → i < j + m → Of b' kind i
  spliced_of i l h = omega (arith, own_part sides, f.low)

  record_there : (K : Kind) (i : ℕ) → Of b' K i → Record b' K i
  record_there K i o = go (view sides K i o)
    where
      go : View kind j n m b b' K i → Record b' K i
      go (before h p e) = same_record e (good_record g K i p)
      go (fresh q l h) = subst (λ (L : Kind). Record b' L i) (sym q) (f.each i l h)
      go (behind d q p e) = same_record e (good_record g K (j + n + d) p)

  same_spot : {i i' : ℕ} → Same b i b' i' → spot b' i' ≡ spot b i
  same_spot e = omega (arith, e.same_key, e.same_id)

  rise : (K : Kind) (i : ℕ) → View kind j n m b b' K i → View kind j n m b b' K (i + 1) → spot b' i < spot b' (i + 1)
  rise K i (before h o e) (before k p d) = omega (arith, same_spot e, same_spot d, rises b g K i (i + 1) (omega arith) o p)
  rise K i (before h o e) (fresh q k l) =
      omega (arith, same_spot e, f.lower i (i + 1) (subst (λ (L : Kind). Of b L i) q o) h k l)
  rise K i (before h o e) (behind u q p d) =
      omega (arith, same_spot e, same_spot d, rises b g K i (j + n + u) (omega arith) o p)
  rise K i (fresh q l h) (before k p d) = absurd (omega arith)
  rise K i (fresh q l h) (fresh r k z) = f.rising i l z
  rise K i (fresh q l h) (behind u r p d) =
      omega (arith, same_spot d, f.upper (j + n + u) i (subst (λ (L : Kind). Of b L (j + n + u)) q p) (omega arith) l h)
  rise K i (behind t q o e) (before k p d) = absurd (omega arith)
  rise K i (behind t q o e) (fresh r k l) = absurd (omega arith)
  rise K i (behind t q o e) (behind u r p d) =
      omega (arith, same_spot e, same_spot d, rises b g K (j + n + t) (j + n + u) (omega arith) o p)

  pub spliced_good : Good b'
  spliced_good =
      together bytes s.header record_there (λ K i o p. rise K i (view sides K i o) (view sides K (i + 1) p))
      (λ t l.
      let r = spliced_records in
      let e : place (j + m) + (t - place (j + m)) ≡ t = omega arith in
      rw e at (s.moved (t - place (j + m)) ∙ g.tail (place (j + n) + (t - place (j + m))) (omega arith)))

  module _ (K : Kind) (x y k : ℕ) where
    pub spliced_stays : None j n b K x y → None j m b' K x y → count b' K x y k ≡ count b K x y k
    spliced_stays old come =
        ⊎_elim
        (λ p.
        let r = old_at sides K x y come p.0 p.1 in
        count_at_lem spliced_good K x y p.0 k p.1 ∙ r.2.same_count k ∙ sym (count_at_lem g K x y r.0 k r.1))
        (λ never.
        count_none b' K x y k never ∙ sym (count_none b K x y k (missing (flipped sides) K x y old never)))
        (where_is b' x y K)

    pub spliced_gone : (i : ℕ) → j ≤ i → i < j + n → At b K x y i → None j m b' K x y → count b' K x y k ≡ 0
    spliced_gone i l h a come =
        count_none b' K x y k
        (λ i' c.
        let r = old_at sides K x y come i' c in
        let q : i ≡ r.0 = once b g K i r.0 a.of r.1.of (omega (arith, a.has_key, a.has_id, r.1.has_key, r.1.has_id)) in
        ⊎_elim (λ z. omega arith) (λ z. omega arith) r.3)
