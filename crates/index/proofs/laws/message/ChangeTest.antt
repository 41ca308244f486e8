-- A test of one change that computes: where it says yes, the second block is what the change makes of the first.
use Prim.Native.Nat.{ℕ, ◌+◌, ◌<◌}
use mathlib.Core.Path.{◌≡◌, subst}
use mathlib.Core.Bool.{Bool, true, ◌&&◌}
use mathlib.Core.List.{List}
use mathlib.Core.Logic.{⊎_elim}
use native.Mathlib.Decide.{ℕ_discrete}
use native.Mathlib.Omega.{arith}
use borrow.Author.Tests.{eqb-true}
use lib.Dec.{eqb}
use lib.ListN.{length}
use Rattle.index.specs.declared.Kind.{Kind}
use Rattle.index.specs.declared.Kind.TheVariants.{Membership, Permission, Filter}
use Rattle.index.specs.Letters.{letter_count}
use Rattle.index.specs.Block.{size, from, key, id, count}
use Rattle.index.specs.Message.{Change, taken, added, Changed}
use Rattle.index.specs.work.Places.{At}
use Rattle.index.proofs.laws.Tests.{both, all, all_at}
use Rattle.index.proofs.laws.block.Records.{where_is, count_none}
use Rattle.index.proofs.laws.block.GoodTest.{good_test, good_test_lem}
use Rattle.index.proofs.laws.message.HalfLetters.{half_of, change_none}

module _ (c : Change) (b b' : List ℕ) where
  -- The counts of one record are as the change says.
  abbrev balanced : Kind → ℕ → ℕ → Bool
  balanced kind x y =
      all (λ k. eqb (count b' kind x y k + taken c kind x y k) (count b kind x y k + added c kind x y k)) 0 letter_count

  -- Those of each record of the block d.
  abbrev balanced_in : List ℕ → Kind → Bool
  balanced_in d kind = all (λ i. balanced kind (key d i) (id d i)) (from d kind) (size d kind)

  abbrev balanced_kind : Kind → Bool
  balanced_kind kind = balanced_in b kind && (balanced_in b' kind && balanced kind (half_of c).key (half_of c).id)

  abbrev pub change_test : Bool
  change_test =
      good_test b'
      && (eqb (length b') (length b) && (balanced_kind Membership && (balanced_kind Permission && balanced_kind Filter)))

  abbrev Balanced : Kind → ℕ → ℕ → Type 0
  Balanced kind x y = (k : ℕ) → k < letter_count → count b' kind x y k + taken c kind x y k ≡ count b kind x y k + added c kind x y k

  balanced_at : (kind : Kind) (x y : ℕ) → balanced kind x y ≡ true → Balanced kind x y
  balanced_at kind x y e k l = eqb-true _ _ (all_at (λ k. eqb (count b' kind x y k + taken c kind x y k) (count b kind x y k + added c kind x y k)) 0 letter_count e k (omega arith) (omega arith))

  balanced_there : (d : List ℕ) (kind : Kind) → balanced_in d kind ≡ true → (x y i : ℕ) → At d kind x y i → Balanced kind x y
  balanced_there d kind e x y i a =
      let t = all_at (λ i. balanced kind (key d i) (id d i)) (from d kind) (size d kind) e i a.of.0 a.of.1 in
      balanced_at kind x y (subst (λ (z : ℕ). balanced kind x z ≡ true) a.has_id (subst (λ (z : ℕ). balanced kind z (id d i) ≡ true) a.has_key t))

  balanced_else : (kind : Kind) (x y : ℕ) → ((i : ℕ) → At b kind x y i → ⊥) → ((i : ℕ) → At b' kind x y i → ⊥)
      → (((half_of c).key ≡ x) × ((half_of c).id ≡ y) → ⊥) → Balanced kind x y
  balanced_else kind x y old new n k l =
      let m = change_none c kind x y k (λ e. n (e.1, e.2)) in
      omega (arith, count_none b kind x y k old, count_none b' kind x y k new, m.0, m.1)

  balanced_half : (kind : Kind) (x y : ℕ) → balanced kind (half_of c).key (half_of c).id ≡ true → ((half_of c).key ≡ x) × ((half_of c).id ≡ y)
      → Balanced kind x y
  balanced_half kind x y e h =
      balanced_at kind x y
      (subst (λ (z : ℕ). balanced kind x z ≡ true) h.1 (subst (λ (z : ℕ). balanced kind z (half_of c).id ≡ true) h.0 e))

  balanced_all : (kind : Kind) → balanced_kind kind ≡ true → (x y : ℕ) → Balanced kind x y
  balanced_all kind e x y =
      let p = both (balanced_in b kind) _ e in
      let q = both (balanced_in b' kind) _ p.1 in
      ⊎_elim (λ a. balanced_there b kind p.0 x y a.0 a.1)
      (λ old.
      ⊎_elim (λ a. balanced_there b' kind q.0 x y a.0 a.1)
      (λ new.
      elim (ℕ_discrete (half_of c).key x) [
        | yes h ↦
            elim (ℕ_discrete (half_of c).id y) [
              | yes k ↦ balanced_half kind x y q.1 (h, k)
              | no k ↦ balanced_else kind x y old new (λ r. k r.1)
            ]
        | no h ↦ balanced_else kind x y old new (λ r. h r.0)
      ])
      (where_is b' x y kind))
      (where_is b x y kind)

  kinds : balanced_kind Membership && (balanced_kind Permission && balanced_kind Filter) ≡ true → (kind : Kind)
      → balanced_kind kind ≡ true
  kinds e Membership = (both (balanced_kind Membership) _ e).0
  kinds e Permission = (both (balanced_kind Permission) (balanced_kind Filter) (both (balanced_kind Membership) _ e).1).0
  kinds e Filter = (both (balanced_kind Permission) (balanced_kind Filter) (both (balanced_kind Membership) _ e).1).1

  pub change_test_lem : change_test ≡ true → Changed c b b'
  change_test_lem e =
      let p = both (good_test b') _ e in
      let q = both (eqb (length b') (length b)) _ p.1 in
      record {
        good = good_test_lem b' p.0;
        same_length = eqb-true _ _ q.0;
        counts = λ kind x y k l. balanced_all kind (kinds q.1 kind) x y k l;
      }
