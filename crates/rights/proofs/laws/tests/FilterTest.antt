-- A test of the filters that computes.
use Prim.Native.Nat.{ℕ, zero, suc, ◌+◌, ◌<◌, ◌≤◌}
use mathlib.Core.Path.{◌≡◌, refl, sym, ◌∙◌}
use mathlib.Core.Bool.{Bool, true, false, cond, ◌&&◌}
use mathlib.Core.List.{List}
use mathlib.Core.Logic.{◌↔◌}
use native.Mathlib.Omega.{arith}
use borrow.Author.Tests.{eqb-true, eq-eqb}
use lib.Dec.{eqb}
use Rattle.index.specs.declared.Kind.{Kind}
use Rattle.index.specs.declared.Kind.TheVariants.{Membership, Filter}
use Rattle.index.specs.Letters.{right_count}
use Rattle.index.specs.Block.{from, size, key, id, Of, Good}
use Rattle.index.proofs.laws.Tests.{both, all, all_at}
use Rattle.rights.specs.Held.{Passes}
use Rattle.rights.specs.work.Lookup.{EachOf, Lets, LetsBy}
use Rattle.rights.proofs.laws.held.Filters.{lets, passes}
use Rattle.index.proofs.laws.message.Halves.{differ}
use Rattle.rights.proofs.laws.tests.ChainTest.{and_true, net_test, net_test_lem}
use Rattle.rights.proofs.laws.tests.MemberTest.{member_test, member_test_lem}

-- P holds of each record of the kind with the key x.
abbrev pub each_test : List ℕ → Kind → ℕ → (ℕ → Bool) → Bool
each_test b kind x P = all (λ i. cond (eqb (key b i) x) (P i) true) (from b kind) (size b kind)

-- Right k is in the net mask of every F record of the name x.
abbrev lets_test : List ℕ → ℕ → ℕ → Bool
lets_test b k x = each_test b Filter x (net_test b k)

-- The same of the group of M record i, if it is a membership.
abbrev by_test : List ℕ → ℕ → ℕ → Bool
by_test b k i = cond (member_test b i) (lets_test b k (id b i)) true

abbrev pub passes_test : List ℕ → ℕ → ℕ → Bool
passes_test b o k = each_test b Membership o (by_test b k) && lets_test b k o

all_from : (P : ℕ → Bool) (i n : ℕ) → ((j : ℕ) → i ≤ j → j < i + n → P j ≡ true) → all P i n ≡ true
all_from P i zero each = refl
all_from P i (suc n) each =
    and_true (each i (omega arith) (omega arith)) (all_from P (i + 1) n (λ j l h. each j (omega arith) (omega arith)))

pub each_test_lem : (b : List ℕ) (kind : Kind) (x : ℕ) (P : ℕ → Bool) (A : ℕ → Type 0) → ((i : ℕ) → Of b kind i → (P i ≡ true) ↔ A i)
    → (each_test b kind x P ≡ true) ↔ EachOf b kind x A
each_test_lem b kind x P A same = (
  (λ t i of e. (same i of).0 (rw (eq-eqb (key b i) x e) at (all_at _ (from b kind) (size b kind) t i of.0 of.1))),
  (λ each. all_from _ (from b kind) (size b kind) (λ i l h. go i (λ e. (same i (l, h)).1 (each i (l, h) e)) (eqb (key b i) x) refl)),
)
  where
    go : (i : ℕ) → (key b i ≡ x → P i ≡ true) → (t : Bool) → eqb (key b i) x ≡ t → cond t (P i) true ≡ true
    go i here true e = here (eqb-true (key b i) x e)
    go i here false e = refl

both_ways : {A B C : Type 0} → A ↔ B → B ↔ C → A ↔ C
both_ways p q = ((λ a. q.0 (p.0 a)), (λ c. p.1 (q.1 c)))

module _ {b : List ℕ} (g : Good b) (k : ℕ) (h : k < right_count) where
  lets_test_lem : (x : ℕ) → (lets_test b k x ≡ true) ↔ Lets b x k
  lets_test_lem x = both_ways (each_test_lem b Filter x (net_test b k) _ (λ i of. net_test_lem b k i)) (lets g k h x)

  by_test_lem : (i : ℕ) → Of b Membership i → (by_test b k i ≡ true) ↔ LetsBy b i k
  by_test_lem i of = go (member_test b i) refl
    where
      go : (t : Bool) → member_test b i ≡ t → (cond t (lets_test b k (id b i)) true ≡ true) ↔ LetsBy b i k
      go true e = ((λ l m. (lets_test_lem (id b i)).0 l), (λ f. (lets_test_lem (id b i)).1 (f ((member_test_lem g of).0 e))))
      go false e = ((λ l m. absurd (differ (sym ((member_test_lem g of).1 m) ∙ e))), (λ f. refl))

  pub passes_test_lem : (o : ℕ) → (passes_test b o k ≡ true) ↔ Passes b o k
  passes_test_lem o =
      let groups = each_test_lem b Membership o (by_test b k) (λ i. LetsBy b i k) by_test_lem in
      both_ways (
        (λ t. let p = both (each_test b Membership o (by_test b k)) _ t in (groups.0 p.0, (lets_test_lem o).0 p.1)),
        (λ p. and_true (groups.1 p.0) ((lets_test_lem o).1 p.1)),
      ) (passes g k o)
