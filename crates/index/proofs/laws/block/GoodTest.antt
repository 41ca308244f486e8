-- A test of a good block that computes: what it says yes to is good.
use Prim.Native.Nat.{ℕ, ◌+◌, ◌-◌, ◌<◌, ◌≤◌}
use mathlib.Core.Path.{◌≡◌}
use mathlib.Core.Bool.{Bool, true, ◌&&◌, ◌||◌}
use mathlib.Core.List.{List}
use mathlib.Core.Logic.{⊎_elim}
use native.Mathlib.Omega.{arith}
use borrow.Author.Tests.{ltb-true, leb-true, eqb-true}
use lib.Dec.{eqb, ltb, leb}
use lib.ListN.{length, get_or, get_or-eq_default}
use Rattle.index.specs.declared.Kind.{Kind}
use Rattle.index.specs.declared.Kind.TheVariants.{Membership, Permission, Filter}
use Rattle.index.specs.Letters.{letter_count, may_have}
use Rattle.index.specs.Block.{name_count, number, size, from, records, Of, place, key, id, count_at, Good}
use Rattle.index.specs.work.Places.{spot}
use Rattle.index.specs.work.Checks.{Header, Record}
use Rattle.index.proofs.laws.Range.{lt_or_le}
use Rattle.index.proofs.laws.block.Bytes.{count_out}
use Rattle.index.proofs.laws.block.Together.{together}
use Rattle.index.proofs.laws.Tests.{both, all, all_at, some, some_at}

abbrev header_test : List ℕ → Bool
header_test b =
    eqb (number b 6) 0
    && (eqb (number b 8) (place (from b Membership))
    && (eqb (number b 10) (place (from b Permission))
    && (eqb (number b 12) (place (from b Filter)) && (eqb (number b 14) (place (records b)) && leb (place (records b)) (length b)))))

header_test_lem : (b : List ℕ) → header_test b ≡ true → Header b
header_test_lem b e =
    let p = both _ _ e in
    let q = both _ _ p.1 in
    let r = both _ _ q.1 in
    let s = both _ _ r.1 in
    let t = both _ _ s.1 in
    record {
      zero_at_6 = eqb-true _ _ p.0;
      m_offset = eqb-true _ _ q.0;
      p_offset = eqb-true _ _ r.0;
      f_offset = eqb-true _ _ s.0;
      end_offset = eqb-true _ _ t.0;
      fits = leb-true _ _ t.1;
    }

-- Record i as one of the kind.
abbrev record_test : List ℕ → Kind → ℕ → Bool
record_test b kind i =
    ltb (key b i) name_count
    && (ltb (id b i) name_count
    && (some (λ k. ltb 0 (count_at b i k)) 0 letter_count && all (λ k. may_have kind k || eqb (count_at b i k) 0) 0 letter_count))

record_test_lem : (b : List ℕ) (kind : Kind) (i : ℕ) → record_test b kind i ≡ true → Record b kind i
record_test_lem b kind i e =
    let above : ℕ → Bool = λ k. ltb 0 (count_at b i k) in
    let none : ℕ → Bool = λ k. may_have kind k || eqb (count_at b i k) 0 in
    let p = both (ltb (key b i) name_count) _ e in
    let q = both (ltb (id b i) name_count) _ p.1 in
    let r = both (some above 0 letter_count) (all none 0 letter_count) q.1 in
    let c = some_at above 0 letter_count r.0 in
    record {
      key_below = ltb-true _ _ p.0;
      id_below = ltb-true _ _ q.0;
      counted = (c.0, omega (arith, c.1), ltb-true _ _ c.2);
      allowed = λ k l.
          ⊎_elim
          (λ h.
          let e = all_at none 0 letter_count r.1 k (omega arith) (omega arith) in
          eqb-true _ _ (rw l at e))
          (λ h. count_out b i k h)
          (lt_or_le k letter_count);
    }

abbrev part_test : List ℕ → Kind → Bool
part_test b kind =
    all (record_test b kind) (from b kind) (size b kind)
    && all (λ i. ltb (spot b i) (spot b (i + 1))) (from b kind) (size b kind - 1)

abbrev bytes_test : List ℕ → Bool
bytes_test b = all (λ j. ltb (get_or b j 0) 256) 0 (length b) && all (λ j. eqb (get_or b j 0) 0) (place (records b)) (length b)

abbrev pub good_test : List ℕ → Bool
good_test b = header_test b && (bytes_test b && (part_test b Membership && (part_test b Permission && part_test b Filter)))

module _ (b : List ℕ) where
  part_record : (kind : Kind) → part_test b kind ≡ true → (i : ℕ) → Of b kind i → Record b kind i
  part_record kind e i o = record_test_lem b kind i (all_at _ (from b kind) (size b kind) (both _ _ e).0 i o.0 o.1)

  part_rises : (kind : Kind) → part_test b kind ≡ true → (i : ℕ) → Of b kind i → Of b kind (i + 1) → spot b i < spot b (i + 1)
  part_rises kind e i o p =
      ltb-true _ _
      (all_at (λ i. ltb (spot b i) (spot b (i + 1))) (from b kind) (size b kind - 1)
      (both (all (record_test b kind) (from b kind) (size b kind)) _ e).1 i o.0 (omega arith))

  past : (j : ℕ) → length b ≤ j → get_or b j 0 ≡ 0
  past j h = get_or-eq_default b 0 {n = j} h

  byte_below : bytes_test b ≡ true → (j : ℕ) → get_or b j 0 < 256
  byte_below e j =
      let t : ℕ → Bool = λ j. ltb (get_or b j 0) 256 in
      ⊎_elim (λ l. ltb-true _ _ (all_at t 0 (length b) (both (all t 0 (length b)) _ e).0 j (omega arith) (omega arith)))
      (λ l. omega (arith, past j l)) (lt_or_le j (length b))

  zero_behind : bytes_test b ≡ true → (j : ℕ) → place (records b) ≤ j → get_or b j 0 ≡ 0
  zero_behind e j h =
      let t : ℕ → Bool = λ j. eqb (get_or b j 0) 0 in
      ⊎_elim
      (λ l.
      eqb-true _ _
      (all_at t (place (records b)) (length b) (both (all (λ j. ltb (get_or b j 0) 256) 0 (length b)) _ e).1 j h
      (omega arith)))
      (past j) (lt_or_le j (length b))

  parts : part_test b Membership && (part_test b Permission && part_test b Filter) ≡ true → (kind : Kind) → part_test b kind ≡ true
  parts e Membership = (both (part_test b Membership) _ e).0
  parts e Permission = (both (part_test b Permission) (part_test b Filter) (both (part_test b Membership) _ e).1).0
  parts e Filter = (both (part_test b Permission) (part_test b Filter) (both (part_test b Membership) _ e).1).1

  pub good_test_lem : good_test b ≡ true → Good b
  good_test_lem e =
      let p = both (header_test b) _ e in
      let q = both (bytes_test b) _ p.1 in
      let part = parts q.1 in
      together (byte_below q.0) (header_test_lem b p.0) (λ kind. part_record kind (part kind)) (λ kind. part_rises kind (part kind))
      (zero_behind q.0)
