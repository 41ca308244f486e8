-- A record by its kind, key and id, and by its number.
use Prim.Native.Nat.{ℕ, ◌+◌, ◌^◌, ◌<◌, ◌≤◌}
use mathlib.Core.Path.{refl, sym, ◌∙◌}
use mathlib.Core.List.{List}
use mathlib.Core.Logic.{◌↔◌, ⊎_elim}
use native.Mathlib.Omega.{arith}
use Rattle.index.specs.declared.Kind.{Kind}
use Rattle.index.specs.declared.Kind.TheVariants.{Membership, Permission}
use Rattle.index.specs.Letters.{right_count}
use Rattle.index.specs.Block.{most_records, size, Of, key, id, Sized, Good, count, NetAt}
use Rattle.index.specs.work.Places.{At}
use Rattle.index.proofs.laws.block.Bytes.{number_small}
use Rattle.index.proofs.laws.block.Records.{few_records, gap_in, where_is, count_at_lem, count_none, of_records}
use Rattle.rights.specs.declared.Profile.{Profile}
use Rattle.rights.specs.declared.Profile.TheVariants.{Ordinary, Strict}
use Rattle.rights.specs.Held.{Is, Net}
use Rattle.rights.specs.Profiles.{Denies}
use Rattle.rights.specs.work.Between.{BarsAt, BarsBy}

-- The size of the M part is a 16-bit number.
pub few_members : {b : List ℕ} → Good b → size b Membership < 2 ^ 16
few_members {b} g = number_small b 0 g.bytes

-- A block that is not too long has room for so many.
pub no_more_members : {b : List ℕ} → Sized b → Good b → size b Membership ≤ most_records
no_more_members {b} sized g = omega (arith, few_records sized g, gap_in Membership b (size b Membership) (omega arith))

pub at_self : {b : List ℕ} {kind : Kind} {i : ℕ} → Of b kind i → At b kind (key b i) (id b i) i
at_self of = record { of = of; has_key = refl; has_id = refl }

module _ {b : List ℕ} (g : Good b) (kind : Kind) where
  module _ {x y : ℕ} where
    pub counted : (k : ℕ) → 0 < count b kind x y k → (i : ℕ) × At b kind x y i
    counted k pos = ⊎_elim (λ a. a) (λ n. absurd (omega (arith, count_none b kind x y k n))) (where_is b x y kind)

    pub is_where : Is b kind x y → (i : ℕ) × At b kind x y i
    unfolding Is
    is_where is = counted is.0 is.2

    pub is_at : {i : ℕ} → At b kind x y i → Is b kind x y
    unfolding Is
    is_at {i} a =
        let c = g.counted i (of_records kind b i a.of) in
        (c.0, c.1, rw (count_at_lem g kind x y i c.0 a) c.2)

    pub net_at : {i : ℕ} (k : ℕ) → k < right_count → At b kind x y i → NetAt b i k ↔ Net b kind x y k
    unfolding Net
    net_at {i} k h a =
        let big = count_at_lem g kind x y i k a in
        let small = count_at_lem g kind x y i (k + right_count) a in
        ((λ n. (h, rw big n.0, small ∙ n.1)), (λ n. (rw big at n.1, sym small ∙ n.2)))

    pub net_where : (k : ℕ) → Net b kind x y k → (i : ℕ) × At b kind x y i × NetAt b i k
    unfolding Net
    net_where k n =
        let w = counted k n.1 in
        (w.0, w.1, (net_at k n.0 w.1).1 n)

-- ---- what holds of a P record, by its number and by its key and id

pub record Told (b : List ℕ) (Q : ℕ → ℕ → Type 0) (P : ℕ → ℕ → ℕ → Type 0) : Type 0 where
  pub at : {x y i : ℕ} (k : ℕ) → k < right_count → At b Permission x y i → Q i k ↔ P x y k
  pub where_is : {x y : ℕ} (k : ℕ) → P x y k → (i : ℕ) × At b Permission x y i

-- What it grants.
pub told_net : {b : List ℕ} → Good b → Told b (NetAt b) (Net b Permission)
told_net g = record { at = net_at g Permission; where_is = λ k n. let w = net_where g Permission k n in (w.0, w.1) }

-- What it bars.
pub told_bars : {b : List ℕ} → Good b → (p : Profile) → Told b (BarsAt p b) (BarsBy p b)
unfolding Denies
told_bars g Ordinary = record { at = λ k h a. ((λ n. n), (λ n. n)); where_is = λ k n. absurd n }
told_bars {b} g Strict = record {
  at = λ {x} {y} {i} k h a. let e = count_at_lem g Permission x y i (k + right_count) a in ((λ d. (h, rw e d)), (λ d. rw e at d.1));
  where_is = λ k d. counted g Permission (k + right_count) d.1;
}
