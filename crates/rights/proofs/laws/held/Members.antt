-- M-107: an M record as a membership, by its number; and a mask that has all four rights or none.
use Prim.Native.Nat.{ℕ, suc, ◌+◌, ◌*◌, ◌%◌, ◌<◌, ◌≤◌}
use mathlib.Core.Path.{◌≡◌, refl, subst}
use mathlib.Core.Bool.{Bool, true, false}
use mathlib.Core.List.{List}
use mathlib.Core.Logic.{◌↔◌, ⊎_elim}
use native.Mathlib.Omega.{arith}
use lib.Dec.{ltb}
use Rattle.index.specs.declared.Kind.TheVariants.{Membership}
use Rattle.index.specs.Letters.{right_count, marker_x, marker_n, may_have, In, Mask}
use Rattle.index.specs.Block.{IsName, Of, key, id, Good, count, count_at}
use Rattle.index.specs.Calls.{MarksOf}
use Rattle.index.specs.work.Checks.{Says}
use Rattle.index.specs.work.Places.{At}
use Rattle.index.proofs.laws.Answer.{yes_is, says_same, less_says}
use Rattle.index.proofs.laws.Range.{lt_or_le}
use Rattle.index.proofs.laws.block.Masks.{in_zero, mask_map}
use Rattle.index.proofs.laws.block.MayHave.{small_alike, no_letter, some_letter}
use Rattle.index.proofs.laws.block.Bytes.{count_small}
use Rattle.index.proofs.laws.block.Records.{count_at_lem, of_records}
use Rattle.directory.proofs.Numbered.{id_name, has_record}
use Rattle.rights.specs.Groups.{Member}
use Rattle.rights.specs.Held.{Carries}
use Rattle.rights.proofs.laws.ByNumber.{at_self, counted, net_at}

-- ---- all four rights or none

-- Such a mask is above zero where it has them.
pub all_or_none : {r : ℕ} {P : Type 0} → Mask r (λ k. P) → (0 < r) ↔ P
all_or_none {r} {P} m = (
  (λ h.
      let (k, i) = some_letter r h in
      ⊎_elim (λ (l : k < right_count). (m.1 k l).0 i) (λ l. absurd (omega (arith, i, no_letter r right_count k m.0 l)))
      (lt_or_le k right_count)),
  (λ p. ⊎_elim (λ (h : 0 < r). h) (λ h. absurd (none (omega arith) ((m.1 0 (omega arith)).1 p))) (lt_or_le 0 r)),
)
  where
    none : r ≡ 0 → In 0 r → ⊥
    none e i = in_zero 0 (subst (In 0) e i)

pub above_zero : {r : ℕ} {P : Type 0} → Mask r (λ k. P) → Says P (ltb 0 r)
above_zero {r} m = let same = all_or_none m in says_same (ltb 0 r) same.0 same.1 (less_says 0 r)

-- By a yes or no that is right about P.
pub all_if : {r : ℕ} {P : Type 0} (t : Bool) → Says P t → Mask r (λ k. t ≡ true) → Mask r (λ k. P)
all_if {r} {P} t s m = mask_map m (λ k. P) (λ k h. ((λ e. yes_is e s), go t s))
  where
    go : (t : Bool) → Says P t → P → t ≡ true
    go true s p = refl
    go false s p = absurd (s p)

positive : (m : ℕ) → (m ≡ 0 → ⊥) → 0 < m
positive ℕ.zero ne = absurd (ne refl)
positive (suc m) ne = omega arith

-- ---- a membership

-- A membership is an M record.
pub member_where : {b : List ℕ} → Good b → {x y : ℕ} → Member b x y → (i : ℕ) × At b Membership x y i
unfolding Member
member_where g m = counted g Membership m.0 m.2

-- A group is a name.
pub member_name : {b : List ℕ} → Good b → (x : ℕ) {y : ℕ} → Member b x y → IsName y
member_name g x m = let w = member_where g m in subst IsName w.1.has_id (id_name g Membership w.1.of)

module _ {b : List ℕ} (g : Good b) {i : ℕ} (of : Of b Membership i) where
  -- Its counts by its number.
  pub own_count_lem : (k : ℕ) → count b Membership (key b i) (id b i) k ≡ count_at b i k
  own_count_lem k = count_at_lem g Membership (key b i) (id b i) i k (at_self of)

  -- It has no small letters.
  no_small : (k : ℕ) → right_count ≤ k → k < marker_x → count_at b i k ≡ 0
  unfolding may_have
  no_small k l h = g.allowed Membership i of k (small_alike Membership k l h)

  -- Its net mask is that of its capital letters.
  pub carries_says : {r : ℕ} → Mask r (λ k. 0 < count_at b i k) → Mask r (λ k. Carries b k (key b i) (id b i))
  unfolding Carries
  carries_says m =
      mask_map m _
      (λ k h.
      let same = net_at g Membership k h (at_self of) in
      ((λ p. same.0 (p, no_small (k + right_count) (omega arith) (omega arith))), (λ n. (same.1 n).0)))

  -- It is a membership where it has one.
  pub member_says : {r : ℕ} → Mask r (λ k. 0 < count_at b i k) → Says (Member b (key b i) (id b i)) (ltb 0 r)
  unfolding Member
  member_says {r} m = says_same (ltb 0 r) has only (less_says 0 r)
    where
      has : 0 < r → (k : ℕ) × (k < marker_x) × (0 < count b Membership (key b i) (id b i) k)
      has h =
          let (k, e) = some_letter r h in
          ⊎_elim (λ (l : k < right_count). (k, omega arith, rw (own_count_lem k) ((m.1 k l).0 e)))
          (λ l. absurd (omega (arith, e, no_letter r right_count k m.0 l))) (lt_or_le k right_count)

      only : (k : ℕ) × (k < marker_x) × (0 < count b Membership (key b i) (id b i) k) → 0 < r
      only (k, l, h) =
          let p : 0 < count_at b i k = omega (arith, own_count_lem k) in
          ⊎_elim
          (λ (s : k < right_count).
          ⊎_elim (λ (q : 0 < r). q) (λ q. absurd (in_zero k (subst (In k) (omega arith) ((m.1 k s).1 p)))) (lt_or_le 0 r))
          (λ s. absurd (omega (arith, no_small k s l))) (lt_or_le k right_count)

  -- Its markers, as one number r: it counts N where r is 65,536 or more, and X where a rest is left.
  module _ {r : ℕ} (marks : MarksOf b i r) where
    both : r ≡ count b Membership (key b i) (id b i) marker_x + 65536 * count b Membership (key b i) (id b i) marker_n
    both =
        let w = marks.whole (has_record g (of_records Membership b i of)) in
        omega (arith, w, own_count_lem marker_x, own_count_lem marker_n)

    x_small : count b Membership (key b i) (id b i) marker_x < 65536
    x_small = omega (arith, own_count_lem marker_x, count_small b i marker_x g.bytes)

    pub counts_n : (65536 ≤ r → 0 < count b Membership (key b i) (id b i) marker_n) × (r < 65536 → count b Membership (key b i) (id b i) marker_n ≡ 0)
    counts_n = ((λ l. omega (arith, both, x_small)), (λ l. omega (arith, both)))

    pub counts_x : (r % 65536 ≡ 0 → count b Membership (key b i) (id b i) marker_x ≡ 0) × ((r % 65536 ≡ 0 → ⊥) → 0 < count b Membership (key b i) (id b i) marker_x)
    counts_x =
        let e : r % 65536 ≡ count b Membership (key b i) (id b i) marker_x = omega (arith, both, x_small) in
        ((λ z. omega arith), (λ n. positive _ (λ z. n (omega arith))))
