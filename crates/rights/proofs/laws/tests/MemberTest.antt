-- Tests of an M record as a membership that compute, by its number.
use Prim.Native.Nat.{ℕ}
use mathlib.Core.Path.{◌≡◌, sym, ◌∙◌}
use mathlib.Core.Bool.{Bool, true, ◌&&◌}
use mathlib.Core.List.{List}
use mathlib.Core.Logic.{◌↔◌}
use native.Mathlib.Omega.{arith}
use borrow.Author.Tests.{eqb-true, eq-eqb, ltb-true, lt-ltb}
use lib.Dec.{eqb, ltb}
use Rattle.index.specs.declared.Kind.TheVariants.{Membership}
use Rattle.index.specs.Letters.{marker_x, marker_n}
use Rattle.index.specs.Block.{Of, key, id, Good, count_at}
use Rattle.index.proofs.laws.Tests.{both, some}
use Rattle.rights.specs.Groups.{Member, WithoutN, Closes}
use Rattle.rights.proofs.laws.held.Members.{own_count_lem}
use Rattle.rights.proofs.laws.tests.ChainTest.{and_true, some_from, from_some}

abbrev pub member_test : List ℕ → ℕ → Bool
member_test b i = some (λ k. ltb 0 (count_at b i k)) 0 marker_x

abbrev pub without_test : List ℕ → ℕ → Bool
without_test b i = member_test b i && eqb (count_at b i marker_n) 0

-- X is looked at first: mostly it is not there.
abbrev pub closes_test : List ℕ → ℕ → Bool
closes_test b i = ltb 0 (count_at b i marker_x) && without_test b i

module _ {b : List ℕ} (g : Good b) {i : ℕ} (of : Of b Membership i) where
  pub member_test_lem : (member_test b i ≡ true) ↔ Member b (key b i) (id b i)
  unfolding Member
  member_test_lem = (
    (λ e.
        let w = some_from (λ k. ltb 0 (count_at b i k)) 0 marker_x e in
        (w.0, omega (arith, w.2), rw (own_count_lem g of w.0) (ltb-true _ _ w.3))),
    (λ m.
        from_some (λ k. ltb 0 (count_at b i k)) 0 marker_x m.0 (omega arith) (omega (arith, m.1))
        (lt-ltb _ _ (rw (own_count_lem g of m.0) at m.2))),
  )

  pub without_test_lem : (without_test b i ≡ true) ↔ WithoutN b (key b i) (id b i)
  unfolding WithoutN
  without_test_lem = (
    (λ e. let p = both (member_test b i) _ e in (member_test_lem.0 p.0, own_count_lem g of marker_n ∙ eqb-true _ _ p.1)),
    (λ m. and_true (member_test_lem.1 m.0) (eq-eqb _ _ (sym (own_count_lem g of marker_n) ∙ m.1))),
  )

  pub closes_test_lem : (closes_test b i ≡ true) ↔ Closes b (key b i) (id b i)
  unfolding Closes
  closes_test_lem = (
    (λ e.
        let p = both (ltb 0 (count_at b i marker_x)) (without_test b i) e in
        (without_test_lem.0 p.1, rw (own_count_lem g of marker_x) (ltb-true _ _ p.0))),
    (λ m. and_true (lt-ltb _ _ (rw (own_count_lem g of marker_x) at m.1)) (without_test_lem.1 m.0)),
  )
