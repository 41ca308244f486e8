-- A test of chains that computes: the names that chains of at most n records lead to, as a list.
use Prim.Native.Nat.{ℕ, zero, suc, ◌+◌, ◌<◌, ◌≤◌}
use mathlib.Core.Path.{◌≡◌, refl, sym, subst}
use mathlib.Core.Bool.{Bool, true, false, cond, ◌&&◌, not}
use mathlib.Core.List.{List, [], ◌∷◌}
use mathlib.Core.Logic.{◌⊎◌, ◌↔◌, inl, inr, ⊎_elim}
use native.Mathlib.Omega.{arith}
use native.Mathlib.Nat.{eq-or-lt_of_le}
use borrow.Author.Tests.{eqb-true, eq-eqb, ltb-true, lt-ltb}
use lib.Dec.{eqb, ltb}
use Rattle.index.specs.declared.Kind.TheVariants.{Membership}
use Rattle.index.specs.Letters.{right_count}
use Rattle.index.specs.Block.{size, key, id, Of, count_at, Good, NetAt}
use Rattle.index.specs.work.Places.{At}
use Rattle.index.proofs.laws.Tests.{both, some}
use Rattle.rights.specs.Chain.{Chain}
use Rattle.rights.specs.Held.{Net, Carries}
use Rattle.rights.specs.Chain.Chain.{here}
use Rattle.rights.proofs.laws.ByNumber.{at_self, net_at, net_where}
use Rattle.rights.proofs.laws.walk.MarksAreChains.{stays, one_more}

pub and_true : {s t : Bool} → s ≡ true → t ≡ true → s && t ≡ true
and_true p q = rw (p, q) refl

-- What the test says no to is not so.
pub not_test : {P : Type 0} (t : Bool) → (t ≡ true) ↔ P → (not t ≡ true) ↔ (P → ⊥)
not_test true right = ((λ e. let z : ◌≡◌ {A = ℕ} 0 1 = cc in absurd (omega arith)), (λ f. absurd (f (right.0 refl))))
not_test false right = ((λ e p. let e : false ≡ true = right.1 p in let z : ◌≡◌ {A = ℕ} 0 1 = cc in omega arith), (λ f. refl))

-- The name is in the list.
abbrev pub member : ℕ → List ℕ → Bool
member x [] = false
member x (y ∷ l) = cond (eqb x y) true (member x l)

pub member_first : (x y : ℕ) (l : List ℕ) → member x (y ∷ l) ≡ true → (x ≡ y) ⊎ (member x l ≡ true)
member_first x y l = go (eqb x y) refl
  where
    go : (t : Bool) → eqb x y ≡ t → cond t true (member x l) ≡ true → (x ≡ y) ⊎ (member x l ≡ true)
    go true e h = inl (eqb-true x y e)
    go false e h = inr h

pub member_own : (x : ℕ) (l : List ℕ) → member x (x ∷ l) ≡ true
member_own x l = rw (eq-eqb x x refl) refl

pub member_later : (x y : ℕ) (l : List ℕ) → member x l ≡ true → member x (y ∷ l) ≡ true
member_later x y l h = go (eqb x y)
  where
    go : (t : Bool) → cond t true (member x l) ≡ true
    go true = refl
    go false = h

-- P holds of one of the n numbers from i on.
pub some_from : (P : ℕ → Bool) (i n : ℕ) → some P i n ≡ true → (j : ℕ) × (i ≤ j) × (j < i + n) × (P j ≡ true)
some_from P i zero e = let z : ◌≡◌ {A = ℕ} 0 1 = cc in absurd (omega arith)
some_from P i (suc n) e = go (some_from P (i + 1) n) (P i) refl e
  where
    go : (some P (i + 1) n ≡ true → (j : ℕ) × (i + 1 ≤ j) × (j < i + 1 + n) × (P j ≡ true)) → (t : Bool) → P i ≡ t
        → cond t true (some P (i + 1) n) ≡ true → (j : ℕ) × (i ≤ j) × (j < i + suc n) × (P j ≡ true)
    go later true q e = (i, omega arith, omega arith, q)
    go later false q e = let r = later e in (r.0, omega (arith, r.1), omega (arith, r.2), r.3)

pub from_some : (P : ℕ → Bool) (i n j : ℕ) → i ≤ j → j < i + n → P j ≡ true → some P i n ≡ true
from_some P i zero j l h e = absurd (omega arith)
from_some P i (suc n) j l h e =
    ⊎_elim (λ q. rw (subst (λ (m : ℕ). P m ≡ true) (sym q) e) refl)
    (λ k. go (P i) (from_some P (i + 1) n j (omega arith) (omega arith) e))
    (eq-or-lt_of_le l)
  where
    go : (t : Bool) → some P (i + 1) n ≡ true → cond t true (some P (i + 1) n) ≡ true
    go true r = refl
    go false r = r

-- Right k is in the net mask of record i.
abbrev pub net_test : List ℕ → ℕ → ℕ → Bool
net_test b k i = ltb 0 (count_at b i k) && eqb (count_at b i (k + right_count)) 0

pub net_test_lem : (b : List ℕ) (k i : ℕ) → (net_test b k i ≡ true) ↔ NetAt b i k
net_test_lem b k i = (
  (λ e. let p = both (ltb 0 (count_at b i k)) _ e in (ltb-true _ _ p.0, eqb-true _ _ p.1)),
  (λ n. and_true (lt-ltb _ _ n.0) (eq-eqb _ _ n.1)),
)

-- Chains through the M records that a test by their numbers takes.
module _ (b : List ℕ) (link : ℕ → Bool) where
  -- Record i goes on from a name of the list.
  abbrev carry_test : List ℕ → ℕ → Bool
  carry_test old i = member (key b i) old && link i

  -- The list with the ids of those of the n records from i on that do.
  abbrev grow : List ℕ → List ℕ → ℕ → ℕ → List ℕ
  grow old l i zero = l
  grow old l i (suc n) = grow old (cond (carry_test old i) (id b i ∷ l) l) (i + 1) n

  -- The list with what the records carry on from it.
  abbrev again : List ℕ → List ℕ
  again l = grow l l 0 (size b Membership)

  -- The names that chains of at most n records lead to from u.
  abbrev pub spread : ℕ → ℕ → List ℕ
  spread zero u = u ∷ []
  spread (suc n) u = again (spread n u)

  abbrev Grown : List ℕ → ℕ → ℕ → ℕ → Type 0
  Grown old z i n = (j : ℕ) × (i ≤ j) × (j < i + n) × (id b j ≡ z) × (carry_test old j ≡ true)

  module _ (old : List ℕ) (z : ℕ) where
    grown : (l : List ℕ) (i n : ℕ) → member z (grow old l i n) ≡ true → (member z l ≡ true) ⊎ Grown old z i n
    grown l i zero h = inl h
    grown l i (suc n) h = go (carry_test old i) refl (grown (cond (carry_test old i) (id b i ∷ l) l) (i + 1) n h)
      where
        go : (t : Bool) → carry_test old i ≡ t → (member z (cond t (id b i ∷ l) l) ≡ true) ⊎ Grown old z (i + 1) n
            → (member z l ≡ true) ⊎ Grown old z i (suc n)
        go true e (inl m) =
            ⊎_elim (λ q. inr (i, omega arith, omega arith, sym q, e)) (λ m. inl m) (member_first z (id b i) l m)
        go false e (inl m) = inl m
        go t e (inr w) = inr (w.0, omega (arith, w.1), omega (arith, w.2), w.3, w.4)

    grow_old : (l : List ℕ) (i n : ℕ) → member z l ≡ true → member z (grow old l i n) ≡ true
    grow_old l i zero m = m
    grow_old l i (suc n) m = grow_old (cond (carry_test old i) (id b i ∷ l) l) (i + 1) n (go (carry_test old i))
      where
        go : (t : Bool) → member z (cond t (id b i ∷ l) l) ≡ true
        go true = member_later z (id b i) l m
        go false = m

    grow_new : (l : List ℕ) (i n : ℕ) → Grown old z i n → member z (grow old l i n) ≡ true
    grow_new l i zero w = absurd (omega (arith, w.1, w.2))
    grow_new l i (suc n) w =
        ⊎_elim
        (λ e.
        grow_old (cond (carry_test old i) (id b i ∷ l) l) (i + 1) n
        (first (subst (λ (j : ℕ). id b j ≡ z) (sym e) w.3) (subst (λ (j : ℕ). carry_test old j ≡ true) (sym e) w.4)))
        (λ h.
        grow_new (cond (carry_test old i) (id b i ∷ l) l) (i + 1) n (w.0, omega arith, omega (arith, w.2), w.3, w.4))
        (eq-or-lt_of_le w.1)
      where
        first : id b i ≡ z → carry_test old i ≡ true → member z (cond (carry_test old i) (id b i ∷ l) l) ≡ true
        first q e = rw e (subst (λ (y : ℕ). member y (id b i ∷ l) ≡ true) q (member_own (id b i) l))

  -- It takes those of the link.
  module _ (Link : ℕ → ℕ → Type 0) (takes : (i : ℕ) → Of b Membership i → (link i ≡ true) ↔ Link (key b i) (id b i))
      (links : (x y : ℕ) → Link x y → (i : ℕ) × At b Membership x y i) where
    once : (l : List ℕ) (z : ℕ) → (member z (again l) ≡ true)
        ↔ ((member z l ≡ true) ⊎ ((x : ℕ) × (member x l ≡ true) × Link x z))
    once l z = (
      (λ h.
          ⊎_elim (λ m. inl m)
          (λ w.
          let p = both (member (key b w.0) l) _ w.4 in
          let of : Of b Membership w.0 = (omega arith, omega (arith, w.2)) in
          inr (
            key b w.0,
            p.0,
            subst (λ (y : ℕ). Link (key b w.0) y) w.3 ((takes w.0 of).0 p.1),
          ))
          (grown l z l 0 (size b Membership) h)),
      (λ s.
          ⊎_elim (λ m. grow_old l z l 0 (size b Membership) m)
          (λ t.
          let w = links t.0 z t.2 in
          grow_new l z l 0 (size b Membership) (
            w.0,
            omega arith,
            omega (arith, w.1.of.1),
            w.1.has_id,
            and_true (subst (λ (x : ℕ). member x l ≡ true) (sym w.1.has_key) t.1)
                ((takes w.0 w.1.of).1 (rw (w.1.has_key, w.1.has_id) t.2)),
          ))
          s),
    )

    pub chain_test_lem : (n u z : ℕ) → (member z (spread n u) ≡ true) ↔ Chain Link n u z
    chain_test_lem zero u z = (
      (λ m.
          ⊎_elim (λ e. subst (λ (y : ℕ). Chain Link 0 u y) (sym e) here)
          (λ no. let q : ◌≡◌ {A = ℕ} 0 1 = cc in absurd (omega arith)) (member_first z u [] m)),
      (λ c. subst (λ (y : ℕ). member y (u ∷ []) ≡ true) (stays c) (member_own u [])),
    )
    chain_test_lem (suc n) u z =
        let step = once (spread n u) z in
        let more = one_more n u z in (
          (λ m.
              more.1
              (⊎_elim (λ s. inl ((chain_test_lem n u z).0 s)) (λ t. inr (t.0, (chain_test_lem n u t.0).0 t.1, t.2)) (step.0 m))),
          (λ c.
              step.1
              (⊎_elim (λ s. inl ((chain_test_lem n u z).1 s)) (λ t. inr (t.0, (chain_test_lem n u t.0).1 t.1, t.2)) (more.0 c))),
        )

carries : (b : List ℕ) (k x y : ℕ) → Carries b k x y ↔ Net b Membership x y k
unfolding Carries
carries b k x y = ((λ c. c), (λ c. c))

-- The names that chains lead to which carry right k.
abbrev pub carried_to : List ℕ → ℕ → ℕ → ℕ → List ℕ
carried_to b k n u = spread b (net_test b k) n u

pub carried_test : (b : List ℕ) (k : ℕ) → Good b → k < right_count → (n u z : ℕ) → (member z (carried_to b k n u) ≡ true) ↔ Chain (Carries b k) n u z
carried_test b k g small = chain_test_lem b (net_test b k) (Carries b k) takes links
  where
    takes : (i : ℕ) → Of b Membership i → (net_test b k i ≡ true) ↔ Carries b k (key b i) (id b i)
    takes i of =
        let same = net_at g Membership k small (at_self of) in
        ((λ e. (carries b k _ _).1 (same.0 ((net_test_lem b k i).0 e))), (λ c. (net_test_lem b k i).1 (same.1 ((carries b k _ _).0 c))))

    links : (x y : ℕ) → Carries b k x y → (i : ℕ) × At b Membership x y i
    links x y c = let w = net_where g Membership k ((carries b k x y).0 c) in (w.0, w.1)
