-- How many numbers something holds of: it is one number; one more, or some more in a row; and what is the same number.
use Prim.Native.Nat.{ℕ, suc, ◌+◌, ◌<◌, ◌≤◌}
use mathlib.Core.Path.{◌≡◌, refl, sym, ap, subst}
use mathlib.Core.Logic.{◌⊎◌, ◌↔◌, inl, inr, ⊎_elim}
use native.Mathlib.Omega.{arith}
use native.Mathlib.Nat.{eq-or-lt_of_le}
use Rattle.rights.specs.Examined.{HowMany}
use Rattle.rights.specs.Examined.HowMany.{none, one, other}

pub counted_once : {P : ℕ → Type 0} {m n n' : ℕ} → HowMany P m n → HowMany P m n' → n ≡ n'
counted_once none none = refl
counted_once (one p h) (one p' h') = ap suc (counted_once h h')
counted_once (one p h) (other f h') = absurd (f p)
counted_once (other f h) (one p h') = absurd (f p)
counted_once (other f h) (other f' h') = counted_once h h'

pub at_most : {P : ℕ → Type 0} {m n : ℕ} → HowMany P m n → n ≤ m
at_most none = omega arith
at_most (one {m = m} {n = n} p h) = omega (arith, at_most h)
at_most (other {m = m} {n = n} f h) = omega (arith, at_most h)

-- What holds of the same numbers holds of as many.
pub count_map : {P Q : ℕ → Type 0} {m n : ℕ} → ((i : ℕ) → i < m → P i ↔ Q i) → HowMany P m n → HowMany Q m n
count_map same none = none
count_map same (one {m = m} p h) = one ((same m (omega arith)).0 p) (count_map (λ i l. same i (omega arith)) h)
count_map same (other {m = m} f h) = other (λ q. f ((same m (omega arith)).1 q)) (count_map (λ i l. same i (omega arith)) h)

-- None at all.
pub count_zero : {P : ℕ → Type 0} {m : ℕ} → HowMany P m 0 → (i : ℕ) → i < m → P i → ⊥
count_zero none i l p = omega arith
count_zero (other {m = m} f h) i l p =
    ⊎_elim (λ e. f (rw e at p)) (λ s. count_zero h i s p) (eq-or-lt_of_le {n = i} {m = m} (omega arith))

pub count_none : (P : ℕ → Type 0) (m : ℕ) → ((i : ℕ) → i < m → P i → ⊥) → HowMany P m 0
count_none P ℕ.zero f = none
count_none P (suc m) f = other (f m (omega arith)) (count_none P m (λ i l. f i (omega arith)))

-- One number more, of which P did not hold.
module _ {P : ℕ → Type 0} (y : ℕ) (new : P y → ⊥) where
  -- Below y it is the same as it was.
  below : {m n : ℕ} → m ≤ y → HowMany P m n → HowMany (λ i. P i ⊎ (y ≡ i)) m n
  below {m} l = count_map (λ i h. ((λ p. inl p), (λ s. ⊎_elim (λ p. p) (λ e. absurd (omega arith)) s)))

  pub count_one : {m n : ℕ} → y < m → HowMany P m n → HowMany (λ i. P i ⊎ (y ≡ i)) m (suc n)
  count_one l none = absurd (omega arith)
  count_one l (one {m = m} {n = n} p h) =
      ⊎_elim (λ e. absurd (new (rw e p))) (λ s. one (inl p) (count_one s h)) (eq-or-lt_of_le {n = y} {m = m} (omega arith))
  count_one l (other {m = m} {n = n} f h) =
      ⊎_elim (λ e. one (inr e) (below (omega arith) h)) (λ s. other (λ w. ⊎_elim f (λ e. omega arith) w) (count_one s h))
      (eq-or-lt_of_le {n = y} {m = m} (omega arith))

-- The d numbers from f on too, of none of which P held.
module _ {P : ℕ → Type 0} (f : ℕ) where
  pub count_span : {m n : ℕ} (d : ℕ) → f + d ≤ m → ((i : ℕ) → f ≤ i → i < f + d → P i → ⊥) → HowMany P m n
      → HowMany (λ i. P i ⊎ ((f ≤ i) × (i < f + d))) m (n + d)
  count_span {m} {n} ℕ.zero l new h =
      let e : n ≡ n + 0 = omega arith in
      subst (λ (c : ℕ). HowMany (λ i. P i ⊎ ((f ≤ i) × (i < f + 0))) m c) e
      (count_map (λ i s. ((λ p. inl p), (λ u. ⊎_elim (λ p. p) (λ w. absurd (omega (arith, w.0, w.1))) u))) h)
  count_span {m} {n} (suc d) l new h =
      let e : suc (n + d) ≡ n + suc d = omega arith in
      subst (λ (c : ℕ). HowMany (λ i. P i ⊎ ((f ≤ i) × (i < f + suc d))) m c) e
      (count_map
      (λ i s. (
        (λ u.
            ⊎_elim (λ v. ⊎_elim (λ p. inl p) (λ w. inr (w.0, omega (arith, w.1))) v) (λ q. inr (omega arith, omega arith)) u),
        (λ u.
            ⊎_elim (λ p. inl (inl p))
            (λ w. ⊎_elim (λ q. inr (sym q)) (λ q. inl (inr (w.0, q))) (eq-or-lt_of_le {n = i} {m = f + d} (omega (arith, w.1)))) u),
      ))
      (count_one (f + d)
      (λ u. ⊎_elim (λ p. new (f + d) (omega arith) (omega arith) p) (λ w. omega (arith, w.1)) u) (omega arith)
      (count_span d (omega arith) (λ i a s. new i a (omega arith)) h)))

-- ---- no more than of something else

-- Without one number of which it held, it holds of one fewer.
module _ (Q : ℕ → Type 0) (y : ℕ) (holds : Q y) where
  count_others : {m n : ℕ} → y < m → HowMany Q m n → (n' : ℕ) × (suc n' ≡ n) × HowMany (λ i. Q i × (i ≡ y → ⊥)) m n'
  count_others l none = absurd (omega arith)
  count_others l (one {m = m} {n = n} q h) =
      ⊎_elim
      (λ e. (n, refl, other (λ t. t.1 (sym e)) (count_map (λ i s. ((λ q. (q, λ z. omega arith)), (λ t. t.0))) h)))
      (λ s. let r = count_others s h in (suc r.0, ap suc r.1, one (q, λ z. omega arith) r.2))
      (eq-or-lt_of_le {n = y} {m = m} (omega arith))
  count_others l (other {m = m} f h) =
      ⊎_elim (λ e. absurd (f (rw e at holds))) (λ s. let r = count_others s h in (r.0, r.1, other (λ t. f t.0) r.2))
      (eq-or-lt_of_le {n = y} {m = m} (omega arith))

-- Where each number that P holds of has one that Q holds of, and no two have the same, P holds of no more numbers than Q.
module _ (R : ℕ → ℕ → Type 0) (alone : (i i' j : ℕ) → R i j → R i' j → i ≡ i') where
  pub no_more : {P Q : ℕ → Type 0} {m n m' n' : ℕ} → ((i : ℕ) → i < m → P i → (j : ℕ) × (j < m') × Q j × R i j) → HowMany P m n
      → HowMany Q m' n' → n ≤ n'
  no_more each none h' = omega arith
  no_more each (other {m = m} f h) h' = no_more (λ i l. each i (omega arith)) h h'
  no_more {Q = Q} {m' = m'} each (one {m = m} {n = n} p h) h' =
      let (j, l, q, r) = each m (omega arith) p in
      let rest = count_others Q j q l h' in
      let few =
      no_more {Q = λ i. Q i × (i ≡ j → ⊥)} {m' = m'}
      (λ i s pi.
      let (j', l', q', r') = each i (omega arith) pi in
      (j', l', (q', λ e. omega (arith, s, alone i m j (subst (R i) e r') r)), r')) h rest.2 in
      omega (arith, few, rest.1)

-- Of the numbers below m, P holds of one, or Q of all.
pub one_or_all : {P Q : ℕ → Type 0} (m : ℕ) → ((k : ℕ) → k < m → P k ⊎ Q k) → ((k : ℕ) × (k < m) × P k) ⊎ ((k : ℕ) → k < m → Q k)
one_or_all ℕ.zero each = inr (λ k h. absurd (omega arith))
one_or_all {Q = Q} (suc m) each =
    ⊎_elim (λ w. inl (w.0, omega (arith, w.1), w.2))
    (λ all.
    ⊎_elim (λ p. inl (m, omega arith, p))
    (λ q. inr (λ k h. ⊎_elim (λ e. subst Q (sym e) q) (λ l. all k l) (eq-or-lt_of_le {n = k} {m = m} (omega arith))))
    (each m (omega arith)))
    (one_or_all m (λ k h. each k (omega arith)))
