-- A test of the records that a walk examines that computes, on a good block: it goes on until a round examines nothing, since no
-- later one does.
use Prim.Native.Nat.{ℕ, suc, ◌+◌, ◌<◌}
use mathlib.Core.Path.{◌≡◌, refl, subst}
use mathlib.Core.Bool.{Bool, true, false, cond, ◌&&◌, not}
use mathlib.Core.List.{List}
use mathlib.Core.Logic.{◌⊎◌, ◌↔◌, inl, inr, ⊎_elim}
use native.Mathlib.Numerals.{unary_clauses}
use native.Mathlib.Omega.{arith}
use Rattle.index.specs.declared.Kind.TheVariants.{Membership}
use Rattle.index.specs.Letters.{right_count}
use Rattle.index.specs.Block.{size, key, Good}
use Rattle.index.proofs.laws.Tests.{both, some, some_at}
use Rattle.rights.specs.Held.{Carries}
use Rattle.rights.specs.Examined.{Mark, MarkBefore, Differs, HowMany, Examined, round_count}
use Rattle.rights.specs.Examined.HowMany.{none, one, other}
use Rattle.rights.specs.Examined.Examined.{before, round}
use Rattle.rights.proofs.laws.ByNumber.{net_where}
use Rattle.rights.proofs.laws.tests.ChainTest.{and_true, not_test, from_some, member, carried_to, carried_test}
use Rattle.rights.proofs.laws.Counting.{count_none, count_zero}
use Rattle.rights.proofs.laws.walk.MarksAreChains.{one_more}

-- ---- what computes

module _ (b : List ℕ) (s : ℕ) where
  -- Right k is in the mark of x before round n, and comes to it in round n.
  abbrev before_test : ℕ → ℕ → ℕ → Bool
  before_test ℕ.zero x k = false
  before_test (suc n) x k = member x (carried_to b k n s)

  abbrev new_test : ℕ → ℕ → ℕ → Bool
  new_test n x k = before_test (suc n) x k && not (before_test n x k)

  abbrev differs_test : ℕ → ℕ → Bool
  differs_test n x = some (new_test n x) 0 right_count

  -- How many of the first m records round n examines.
  abbrev round_test : ℕ → ℕ → ℕ
  round_test n ℕ.zero = 0
  round_test n (suc m) = cond (differs_test n (key b m)) (suc (round_test n m)) (round_test n m)

  -- What a round and the later ones come to.
  abbrev onwards : ℕ → ℕ → ℕ
  onwards ℕ.zero later = 0
  onwards (suc n) later = suc n + later

  abbrev sum_test : ℕ → ℕ → ℕ
  sum_test ℕ.zero r = 0
  sum_test (suc left) r = onwards (round_test r (size b Membership)) (sum_test left (suc r))

  abbrev pub examined_test : ℕ
  examined_test = sum_test round_count 0

-- ---- what it says

-- P holds or does not.
abbrev Decided : Type 0 → Type 0
Decided P = P ⊎ (P → ⊥)

decided : {P : Type 0} (t : Bool) → (t ≡ true) ↔ P → Decided P
decided true w = inl (w.0 refl)
decided false w = inr (λ p. let e : false ≡ true = w.1 p in let z : ◌≡◌ {A = ℕ} 0 1 = cc in omega arith)

module _ {b : List ℕ} (g : Good b) (s : ℕ) where
  before_test_lem : (n x k : ℕ) → k < right_count → (before_test b s n x k ≡ true) ↔ MarkBefore b s n x k
  unfolding MarkBefore Mark
  before_test_lem ℕ.zero x k h = ((λ e. let z : ◌≡◌ {A = ℕ} 0 1 = cc in omega arith), (λ f. absurd f))
  before_test_lem (suc n) x k h = carried_test b k g h n s x

  differs_test_lem : (n x : ℕ) → (differs_test b s n x ≡ true) ↔ Differs b s n x
  unfolding Differs MarkBefore
  differs_test_lem n x = (
    (λ e.
        let w = some_at (new_test b s n x) 0 right_count e in
        let h : w.0 < right_count = omega (arith, w.1) in
        let p = both (before_test b s (suc n) x w.0) (not (before_test b s n x w.0)) w.2 in (
          w.0,
          h,
          (before_test_lem (suc n) x w.0 h).0 p.0,
          (not_test (before_test b s n x w.0) (before_test_lem n x w.0 h)).0 p.1,
        )),
    (λ d.
        let k = d.0 in
        from_some (new_test b s n x) 0 right_count k (omega arith) (omega (arith, d.1))
        (and_true ((before_test_lem (suc n) x k d.1).1 d.2)
        ((not_test (before_test b s n x k) (before_test_lem n x k d.1)).1 d.3))),
  )

  round_test_lem : (n m : ℕ) → HowMany (λ i. Differs b s n (key b i)) m (round_test b s n m)
  round_test_lem n ℕ.zero = none
  round_test_lem n (suc m) = go (differs_test b s n (key b m)) (differs_test_lem n (key b m)) (round_test_lem n m)
    where
      go : (t : Bool) → (t ≡ true) ↔ Differs b s n (key b m) → HowMany (λ i. Differs b s n (key b i)) m (round_test b s n m)
          → HowMany (λ i. Differs b s n (key b i)) (suc m) (cond t (suc (round_test b s n m)) (round_test b s n m))
      go true w h = one (w.0 refl) h
      go false w h = other (λ d. let e : false ≡ true = w.1 d in let z : ◌≡◌ {A = ℕ} 0 1 = cc in omega arith) h

  -- Round r examines nothing.
  abbrev Still : ℕ → Type 0
  Still r = (i : ℕ) → i < size b Membership → Differs b s r (key b i) → ⊥

  -- A record brings on what its key had before.
  carry_on : (r x y k : ℕ) → MarkBefore b s r y k → Carries b k y x → Mark b s r x k
  unfolding MarkBefore Mark
  carry_on ℕ.zero x y k was l = absurd was
  carry_on (suc r) x y k was l = (one_more r s x).1 (inr (y, was, l))

  -- Then the next brings nothing to any mark, and so examines nothing either.
  settled : (r : ℕ) → Still r → (x k : ℕ) → k < right_count → Mark b s (suc r) x k → Mark b s r x k
  unfolding Mark Differs Carries
  settled r still x k h c =
      ⊎_elim (λ d. d)
      (λ t.
      ⊎_elim (λ was. carry_on r x t.0 k was t.2)
      (λ not.
      let w = net_where g Membership k t.2 in
      let d : Differs b s r t.0 = (k, h, t.1, not) in
      absurd (still w.0 (omega (arith, w.1.of.1)) (rw w.1.has_key d)))
      (decided (before_test b s r t.0 k) (before_test_lem r t.0 k h)))
      ((one_more r s x).0 c)

  still_next : (r : ℕ) → Still r → Still (suc r)
  unfolding Differs MarkBefore
  still_next r still i l d = d.3 (settled r still (key b i) d.0 d.1 d.2)

  quiet : (left r e : ℕ) → Still r → Examined b s r e → Examined b s (r + left) e
  quiet ℕ.zero r e still ex = simp unary_clauses ex
  quiet (suc left) r e still ex =
      let p : suc r + left ≡ r + suc left = omega arith in
      let q : e + 0 ≡ e = omega arith in
      subst (λ (m : ℕ). Examined b s m e) p
      (quiet left (suc r) e (still_next r still)
      (subst (λ (m : ℕ). Examined b s (suc r) m) q
      (round ex (count_none (λ i. Differs b s r (key b i)) (size b Membership) still))))

  -- From round r on.
  sum_test_lem : (left r e : ℕ) → Examined b s r e → Examined b s (r + left) (e + sum_test b s left r)
  sum_test_lem ℕ.zero r e ex = simp unary_clauses ex
  sum_test_lem (suc left) r e ex =
      go (round_test b s r (size b Membership)) (round_test_lem r (size b Membership)) (λ d later. sum_test_lem left (suc r) d later)
    where
      go : (n : ℕ) → HowMany (λ i. Differs b s r (key b i)) (size b Membership) n
          → ((d : ℕ) → Examined b s (suc r) d → Examined b s (suc r + left) (d + sum_test b s left (suc r)))
          → Examined b s (r + suc left) (e + onwards b s n (sum_test b s left (suc r)))
      go ℕ.zero h rest =
          let q : e ≡ e + 0 = omega arith in
          subst (λ (m : ℕ). Examined b s (r + suc left) m) q (quiet (suc left) r e (count_zero h) ex)
      go (suc n) h rest =
          let later = sum_test b s left (suc r) in
          let p : suc r + left ≡ r + suc left = omega arith in
          let q : e + suc n + later ≡ e + (suc n + later) = omega arith in
          subst (λ (m : ℕ). Examined b s m (e + (suc n + later))) p
          (subst (λ (m : ℕ). Examined b s (suc r + left) m) q (rest (e + suc n) (round ex h)))

  pub examined_test_lem : Examined b s round_count (examined_test b s)
  examined_test_lem =
      let q : 0 + examined_test b s ≡ examined_test b s = omega arith in
      subst (λ (m : ℕ). Examined b s round_count m) q (sum_test_lem round_count 0 0 before)
