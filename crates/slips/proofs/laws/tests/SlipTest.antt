-- A test of a slip that computes, on a good block.
use Prim.Native.Nat.{ℕ, ◌+◌, ◌-◌, ◌<◌}
use mathlib.Core.Path.{◌≡◌, refl, ap}
use mathlib.Core.Bool.{Bool, true, false, cond, ◌&&◌}
use mathlib.Core.List.{List, [], ◌∷◌}
use mathlib.Core.Logic.{◌⊎◌, ◌↔◌, inl, inr, ⊎_elim}
use native.Mathlib.Omega.{arith}
use borrow.Author.Tests.{eqb-true, eq-eqb}
use lib.Dec.{eqb, leb}
use lib.ListN.{length, get_or}
use Rattle.index.specs.declared.Kind.{Kind}
use Rattle.index.specs.declared.Kind.TheVariants.{Membership, Permission}
use Rattle.index.specs.Letters.{right_count}
use Rattle.index.specs.Block.{from, size, key, id, Good}
use Rattle.index.specs.work.Checks.{Says}
use Rattle.index.specs.work.Places.{At}
use Rattle.index.proofs.laws.Answer.{says_same, equal_says}
use Rattle.index.proofs.laws.Deciding.{most_says, says_and, says_all}
use Rattle.index.proofs.laws.Tests.{both, all, some}
use Rattle.rights.specs.Held.{Net, Carries, chain_limit}
use Rattle.rights.proofs.laws.ByNumber.{net_at, net_where}
use Rattle.rights.proofs.laws.tests.ChainTest.{and_true, some_from, from_some, net_test, net_test_lem}
use Rattle.rights.proofs.laws.tests.FilterTest.{passes_test, passes_test_lem}
use Rattle.rights.proofs.laws.tests.OpenTest.{open_test, open_test_lem}
use Rattle.slips.specs.Slip.{most_names, last, Names, ZeroAlone, Slip}

-- ---- what computes

-- A record of the kind has the key x and the id y, and right k in its net mask.
abbrev record_test : List ℕ → ℕ → ℕ → ℕ → ℕ → Bool
record_test b k x y i = eqb (key b i) x && (eqb (id b i) y && net_test b k i)

abbrev link_test : List ℕ → Kind → ℕ → ℕ → ℕ → Bool
link_test b kind k x y = some (record_test b k x y) (from b kind) (size b kind)

-- From name i of the list to the next.
abbrev step_test : List ℕ → ℕ → List ℕ → ℕ → Bool
step_test b k names i = link_test b Membership k (get_or names i 0) (get_or names (i + 1) 0)

abbrev names_test : List ℕ → ℕ → ℕ → List ℕ → Bool
names_test b k x names =
    leb 1 (length names) && (leb (length names) most_names && (eqb (get_or names 0 0) x && all (step_test b k names) 0 (length names - 1)))

abbrev zero_test : List ℕ → Bool
zero_test [] = false
zero_test (x ∷ []) = eqb x 0
zero_test (x ∷ y ∷ names) = false

abbrev pub slip_test : List ℕ → ℕ → ℕ → ℕ → List ℕ → List ℕ → Bool
slip_test b u o k us os =
    names_test b k u us
    && (cond (zero_test os) true (names_test b k o os) && (link_test b Permission k (last os) (last us) && (passes_test b o k && open_test chain_limit b u o)))

-- ---- what it says

says_test : {P : Type 0} (t : Bool) → (t ≡ true) ↔ P → Says P t
says_test true w = w.0 refl
says_test false w = λ p. let e : false ≡ true = w.1 p in let z : ◌≡◌ {A = ℕ} 0 1 = cc in omega arith

says_or : (P Q : Type 0) (s t : Bool) → Says Q s → Says P t → Says (P ⊎ Q) (cond s true t)
says_or P Q true t q p = inr q
says_or P Q false true q p = inl p
says_or P Q false false q p = λ r. ⊎_elim p q r

zero_says : (names : List ℕ) → Says (ZeroAlone names) (zero_test names)
zero_says [] = λ e. omega (arith, ap length e)
zero_says (x ∷ []) =
    says_same (eqb x 0) (λ e. ap (λ (x : ℕ). x ∷ []) e) (λ e. ap (λ (l : List ℕ). get_or l 0 0) e) (equal_says x 0)
zero_says (x ∷ y ∷ names) = λ e. omega (arith, ap length e)

module _ {b : List ℕ} (g : Good b) (k : ℕ) (small : k < right_count) where
  link_test_lem : (kind : Kind) (x y : ℕ) → (link_test b kind k x y ≡ true) ↔ Net b kind x y k
  link_test_lem kind x y = (
    (λ e.
        let w = some_from (record_test b k x y) (from b kind) (size b kind) e in
        let p = both (eqb (key b w.0) x) _ w.3 in
        let q = both (eqb (id b w.0) y) (net_test b k w.0) p.1 in
        let at : At b kind x y w.0 = record { of = (w.1, w.2); has_key = eqb-true _ _ p.0; has_id = eqb-true _ _ q.0 } in
        (net_at g kind k small at).0 ((net_test_lem b k w.0).0 q.1)),
    (λ n.
        let w = net_where g kind k n in
        from_some (record_test b k x y) (from b kind) (size b kind) w.0 w.1.of.0 w.1.of.1
        (and_true (eq-eqb _ _ w.1.has_key) (and_true (eq-eqb _ _ w.1.has_id) ((net_test_lem b k w.0).1 w.2)))),
  )

  link_says : (kind : Kind) (x y : ℕ) → Says (Net b kind x y k) (link_test b kind k x y)
  link_says kind x y = says_test (link_test b kind k x y) (link_test_lem kind x y)

  names_says : (x : ℕ) (names : List ℕ) → Says (Names (Carries b k) x names) (names_test b k x names)
  unfolding Carries
  names_says x names =
      says_same (names_test b k x names)
      (λ p. record { some = p.0; few = p.1.0; starts = p.1.1.0; linked = λ i l. p.1.1.1 i (omega arith) })
      (λ n. (n.some, (n.few, (n.starts, λ i l. n.linked i (omega arith)))))
      (says_and _ _ (leb 1 (length names)) _ (most_says 1 (length names))
      (says_and _ _ (leb (length names) most_names) _ (most_says (length names) most_names)
      (says_and _ _ (eqb (get_or names 0 0) x) _ (equal_says (get_or names 0 0) x)
      (says_all (λ i. Net b Membership (get_or names i 0) (get_or names (i + 1) 0) k) (step_test b k names)
      (λ i. link_says Membership (get_or names i 0) (get_or names (i + 1) 0)) (length names - 1)))))

  pub slip_says : (u o : ℕ) (us os : List ℕ) → Says (Slip b u o k us os) (slip_test b u o k us os)
  slip_says u o us os =
      says_same (slip_test b u o k us os)
      (λ p. record { user_names = p.0; object_names = p.1.0; grant = p.1.1.0; filters = p.1.1.1.0; exclusive = p.1.1.1.1 })
      (λ s. (s.user_names, (s.object_names, (s.grant, (s.filters, s.exclusive)))))
      (says_and _ _ (names_test b k u us) _ (names_says u us)
      (says_and _ _ (cond (zero_test os) true (names_test b k o os)) _ (says_or (Names (Carries b k) o os) (ZeroAlone os) (zero_test os) (names_test b k o os) (zero_says os) (names_says o os))
      (says_and _ _ (link_test b Permission k (last os) (last us)) _ (link_says Permission (last os) (last us))
      (says_and _ _ (passes_test b o k) _ (says_test (passes_test b o k) (passes_test_lem g k small o)) (says_test (open_test chain_limit b u o) (open_test_lem g chain_limit u o))))))
