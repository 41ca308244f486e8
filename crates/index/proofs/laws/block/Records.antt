-- Records by key and id: they rise, each is there once, and a count is that of the one record.
use Prim.Native.Nat.{ℕ, zero, suc, ◌+◌, ◌*◌, ◌<◌, ◌≤◌}
use mathlib.Core.Path.{◌≡◌, refl, sym, ap, subst, ◌∙◌}
use mathlib.Core.Bool.{Bool, true, false, cond, ◌&&◌}
use mathlib.Core.List.{List}
use mathlib.Core.Logic.{◌⊎◌, inl, inr, ⊎_elim}
use native.Mathlib.Nat.{eq-or-lt_of_le, le_of_suc-le-suc, mul-suc, mul-le-mul_left}
use native.Mathlib.Numerals.{add-one}
use native.Mathlib.Omega.{arith}
use native.Mathlib.Decide.{ℕ_discrete}
use borrow.Author.Tests.{eqb-true, eqb-false}
use lib.Dec.{eqb}
use Rattle.index.specs.declared.Kind.{Kind}
use Rattle.index.specs.declared.Kind.TheVariants.{Membership, Permission, Filter}
use Rattle.index.specs.Block.{Sized, most_records, size, from, records, key, id, count_at, count_from, count, Of, Before, Good}
use Rattle.index.specs.work.Places.{spot, At}
use Rattle.index.proofs.laws.Range.{lt_or_le}

one_more : (w : ℕ) {x y : ℕ} → x < y → w * x + w ≤ w * y
one_more w h = rw mul-suc at (mul-le-mul_left w h)

-- Records stand by key and id as one number, whatever w a key counts for, as long as the ids are below it.
module _ {w : ℕ} (b : List ℕ) (i j : ℕ) where
  pub before_spot : id b i < w → Before b i j → w * key b i + id b i < w * key b j + id b j
  unfolding Before
  before_spot h = ⊎_elim (λ l. omega (arith, one_more w l)) (λ e. rw e.0 (omega arith))

  pub spot_before : id b j < w → w * key b i + id b i < w * key b j + id b j → Before b i j
  unfolding Before
  spot_before h l =
      ⊎_elim (λ k. inl k)
      (λ k. inr (⊎_elim (λ e. (sym e, omega (arith, rw e at l))) (λ m. omega (arith, one_more w m)) (eq-or-lt_of_le k)))
      (lt_or_le (key b i) (key b j))

pub of_records : (kind : Kind) (b : List ℕ) (i : ℕ) → Of b kind i → i < records b
of_records Membership b i o = omega arith
of_records Permission b i o = omega arith
of_records Filter b i o = omega arith

pub kind_of_lem : (b : List ℕ) (i : ℕ) → i < records b → (kind : Kind) × Of b kind i
kind_of_lem b i l =
    ⊎_elim (λ h. (Membership, omega arith))
    (λ h. ⊎_elim (λ k. (Permission, omega arith)) (λ k. (Filter, omega arith)) (lt_or_le i (from b Filter)))
    (lt_or_le i (size b Membership))

-- A record is of one kind.
pub one_kind : (K L : Kind) (b : List ℕ) (i : ℕ) → Of b K i → Of b L i → K ≡ L
one_kind Membership Membership b i o p = refl
one_kind Membership Permission b i o p = absurd (omega arith)
one_kind Membership Filter b i o p = absurd (omega arith)
one_kind Permission Membership b i o p = absurd (omega arith)
one_kind Permission Permission b i o p = refl
one_kind Permission Filter b i o p = absurd (omega arith)
one_kind Filter Membership b i o p = absurd (omega arith)
one_kind Filter Permission b i o p = absurd (omega arith)
one_kind Filter Filter b i o p = refl

-- The end of a part is within the records.
-- "2,048 at most": a block that is not too long has no more records.
pub few_records : {b : List ℕ} → Sized b → Good b → records b ≤ most_records
unfolding Sized
few_records s g = omega (arith, s.1, g.fits)

pub gap_in : (kind : Kind) (b : List ℕ) (i : ℕ) → i ≤ from b kind + size b kind → i ≤ records b
gap_in Membership b i l = omega arith
gap_in Permission b i l = omega arith
gap_in Filter b i l = omega arith

module _ (b : List ℕ) (g : Good b) (kind : Kind) where
  pub rises : (i j : ℕ) → i < j → Of b kind i → Of b kind j → spot b i < spot b j
  rises i zero l o p = absurd (omega arith)
  rises i (suc j) l o p =
      let step : (m : ℕ) → Of b kind m → Of b kind (suc m) → spot b m < spot b (suc m) =
      λ m u v. rw add-one at (before_spot b m (m + 1) (g.ids m (of_records kind b m u)) (g.rising kind m u (rw add-one v))) in
      ⊎_elim
      (λ e. subst (λ (m : ℕ). spot b m < spot b (suc j)) (sym e) (step j (subst (Of b kind) e o) p))
      (λ h. let q : Of b kind j = omega arith in let r = rises i j h o q in let s = step j q p in omega arith)
      (eq-or-lt_of_le (le_of_suc-le-suc l))

  pub once : (i j : ℕ) → Of b kind i → Of b kind j → spot b i ≡ spot b j → i ≡ j
  once i j o p e =
      ⊎_elim (λ l. let r = rises i j l o p in absurd (omega arith))
      (λ l.
      ⊎_elim (λ q. sym q) (λ h. let r = rises j i h p o in absurd (omega arith)) (eq-or-lt_of_le l))
      (lt_or_le i j)

  -- A later record does not stand lower.
  pub no_lower : (i j : ℕ) → i ≤ j → Of b kind i → Of b kind j → spot b i ≤ spot b j
  no_lower i j l o p =
      ⊎_elim (λ e. rw e (omega arith)) (λ h. omega (arith, rises i j h o p)) (eq-or-lt_of_le l)

-- ---- a count

module _ (b : List ℕ) (x y k : ℕ) where
  pub found : (i n j : ℕ) → i ≤ j → j < i + n → key b j ≡ x → id b j ≡ y
      → ((m : ℕ) → i ≤ m → m < i + n → key b m ≡ x → id b m ≡ y → m ≡ j) → count_from b x y k i n ≡ count_at b j k
  unfolding count_from
  found i zero j l h p q u = absurd (omega arith)
  found i (suc n) j l h p q u =
      go (λ ne. found (i + 1) n j (omega arith) (omega arith) p q (λ m a c. u m (omega arith) (omega arith)))
      (eqb (key b i) x) (eqb (id b i) y) refl refl
    where
      go : ((i ≡ j → ⊥) → count_from b x y k (i + 1) n ≡ count_at b j k) → (s t : Bool) → eqb (key b i) x ≡ s → eqb (id b i) y ≡ t
          → cond (s && t) (count_at b i k) (count_from b x y k (i + 1) n) ≡ count_at b j k
      go later true true es et =
          ap (λ (m : ℕ). count_at b m k) (u i (omega arith) (omega arith) (eqb-true _ _ es) (eqb-true _ _ et))
      go later true false es et = later (λ e. eqb-false _ _ et (ap (id b) e ∙ q))
      go later false t es et = later (λ e. eqb-false _ _ es (ap (key b) e ∙ p))

  pub not_found : (i n : ℕ) → ((m : ℕ) → i ≤ m → m < i + n → key b m ≡ x → id b m ≡ y → ⊥) → count_from b x y k i n ≡ 0
  unfolding count_from
  not_found i zero u = refl
  not_found i (suc n) u =
      go (not_found (i + 1) n (λ m a c. u m (omega arith) (omega arith))) (eqb (key b i) x) (eqb (id b i) y) refl refl
    where
      go : count_from b x y k (i + 1) n ≡ 0 → (s t : Bool) → eqb (key b i) x ≡ s → eqb (id b i) y ≡ t
          → cond (s && t) (count_at b i k) (count_from b x y k (i + 1) n) ≡ 0
      go later true true es et = absurd (u i (omega arith) (omega arith) (eqb-true _ _ es) (eqb-true _ _ et))
      go later true false es et = later
      go later false t es et = later

-- The record of this kind, key and id, or that there is none.
module _ (b : List ℕ) (x y : ℕ) where
  abbrev Hit : ℕ → ℕ → Type 0
  Hit i n = (j : ℕ) × (i ≤ j) × (j < i + n) × (key b j ≡ x) × (id b j ≡ y)

  abbrev Miss : ℕ → ℕ → Type 0
  Miss i n = (m : ℕ) → i ≤ m → m < i + n → key b m ≡ x → id b m ≡ y → ⊥

  here : (i : ℕ) → ((key b i ≡ x) × (id b i ≡ y)) ⊎ (key b i ≡ x → id b i ≡ y → ⊥)
  here i =
      elim (ℕ_discrete (key b i) x) [
        | yes p ↦ elim (ℕ_discrete (id b i) y) [ yes q ↦ inl (p, q) | no n ↦ inr (λ _ q. n q) ]
        | no n ↦ inr (λ p _. n p)
      ]

  look : (i n : ℕ) → Hit i n ⊎ Miss i n
  look i zero = inr (λ m l h p q. omega arith)
  look i (suc n) =
      ⊎_elim (λ e. inl (i, omega arith, omega arith, e.0, e.1))
      (λ ne.
      ⊎_elim (λ a. inl (a.0, omega arith, omega arith, a.3, a.4))
      (λ f.
      inr
      (λ m l h p q.
      ⊎_elim (λ e. ne (ap (key b) e ∙ p) (ap (id b) e ∙ q)) (λ lt. f m (omega arith) (omega arith) p q)
      (eq-or-lt_of_le l)))
      (look (i + 1) n))
      (here i)

  pub where_is : (kind : Kind) → ((i : ℕ) × At b kind x y i) ⊎ ((i : ℕ) → At b kind x y i → ⊥)
  where_is kind =
      ⊎_elim (λ a. inl (a.0, record { of = (a.1, a.2); has_key = a.3; has_id = a.4 }))
      (λ n. inr (λ i a. n i a.of.0 a.of.1 a.has_key a.has_id))
      (look (from b kind) (size b kind))

pub count_at_lem : {b : List ℕ} → Good b → (kind : Kind) (x y i k : ℕ) → At b kind x y i → count b kind x y k ≡ count_at b i k
unfolding count
count_at_lem {b} g kind x y i k a =
    found b x y k (from b kind) (size b kind) i a.of.0 a.of.1 a.has_key a.has_id
    (λ m l h p q. once b g kind m i (l, h) a.of (omega arith))

pub count_none : (b : List ℕ) (kind : Kind) (x y k : ℕ) → ((i : ℕ) → At b kind x y i → ⊥) → count b kind x y k ≡ 0
unfolding count
count_none b kind x y k n =
    not_found b x y k (from b kind) (size b kind) (λ m l h p q. n m (record { of = (l, h); has_key = p; has_id = q }))
