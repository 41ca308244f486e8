-- The names on a chain, and the chain that they are on; a slip shows that the right is held, and a right that is held has a slip.
use Prim.Native.Nat.{ℕ, suc, ◌-◌, ◌<◌, ◌≤◌}
use native.Mathlib.Numerals.{add-one}
use mathlib.Core.Path.{◌≡◌, refl, sym, subst, ap, ◌∙◌}
use mathlib.Core.List.{List, [], ◌∷◌}
use mathlib.Core.Logic.{◌⊎◌, inl, inr, ⊎_elim}
use native.Mathlib.Omega.{arith}
use lib.ListN.{length, get_or}
use Rattle.rights.specs.Chain.{Chain}
use Rattle.rights.specs.Chain.Chain.{here, through}
use Rattle.rights.specs.Held.{Carries, Holds, chain_limit}
use Rattle.slips.specs.Slip.{last, Names, ZeroAlone, Slip}

-- A chain of at most n records has at most m of them, where n is at most m.
chain_most : {Link : ℕ → ℕ → Type 0} {n m x z : ℕ} → Chain Link n x z → n ≤ m → Chain Link m x z
chain_most here h = here
chain_most {m = ℕ.zero} (through y k c) h = absurd (omega arith)
chain_most {m = suc m} (through {n = n} y k c) h = through y k (chain_most {n = n} {m = m} c (omega arith))

-- From each name of a list, x before it, there is a link to the next.
abbrev Linked : (ℕ → ℕ → Type 0) → ℕ → List ℕ → Type 0
Linked Link x l = (i : ℕ) → suc i < suc (length l) → Link (get_or (x ∷ l) i 0) (get_or (x ∷ l) (suc i) 0)

last_is : (x : ℕ) (l : List ℕ) → last (x ∷ l) ≡ get_or (x ∷ l) (length l) 0
last_is x l = let e : suc (length l) - 1 ≡ length l = omega arith in rw e

module _ {Link : ℕ → ℕ → Type 0} where
  -- The chain has one record fewer than there are names.
  pub names_chain : {x : ℕ} (names : List ℕ) → Names Link x names → Chain Link (length names - 1) x (last names)
  names_chain [] n = absurd (omega (arith, n.some))
  names_chain {x} (y ∷ l) n =
      let e : suc (length l) - 1 ≡ length l = omega arith in
      subst (λ (z : ℕ). Chain Link (suc (length l) - 1) z (last (y ∷ l))) n.starts (rw e (go y l linked))
    where
      linked : Linked Link y l
      linked i h = subst (λ (j : ℕ). Link (get_or (y ∷ l) i 0) (get_or (y ∷ l) j 0)) (add-one i) (n.linked i (omega (arith, h)))

      go : (y : ℕ) (l : List ℕ) → Linked Link y l → Chain Link (length l) y (get_or (y ∷ l) (length l) 0)
      go y [] f = here
      go y (z ∷ l) f = through z (f 0 (omega arith)) (go z l (λ i h. f (suc i) (omega (arith, h))))

  -- The names of a chain, from its first to its last.
  pub chain_names : {n x z : ℕ} → Chain Link n x z → n ≤ chain_limit → (names : List ℕ) × Names Link x names × (last names ≡ z)
  chain_names {n} {x} {z} c h =
      let (l, long, ends, f) = go c in (
        x ∷ l,
        record {
          some = omega arith;
          few = omega (arith, long);
          starts = refl;
          linked = λ i k. subst (λ (j : ℕ). Link (get_or (x ∷ l) i 0) (get_or (x ∷ l) j 0)) (sym (add-one i)) (f i (omega arith));
        },
        ends,
      )
    where
      step : (x y : ℕ) (l : List ℕ) → Link x y → Linked Link y l → Linked Link x (y ∷ l)
      step x y l k f ℕ.zero h = k
      step x y l k f (suc i) h = f i (omega (arith, h))

      go : {n x z : ℕ} → Chain Link n x z → (l : List ℕ) × (length l ≤ n) × (last (x ∷ l) ≡ z) × Linked Link x l
      go here = ([], omega arith, refl, λ i k. absurd (omega arith))
      go {x = x} (through y k c) =
          let (l, long, ends, f) = go c in
          (y ∷ l, omega arith, last_is x (y ∷ l) ∙ sym (last_is y l) ∙ ends, step x y l k f)

-- ---- a slip, and what is held

module _ {b : List ℕ} {u o k : ℕ} where
  pub slip_holds : {us os : List ℕ} → Slip b u o k us os → Holds chain_limit b u o k
  slip_holds {us} {os} p = record {
    s = last us;
    g = last os;
    reached = record { user_chain = longer p.user_names; object_chain = ⊎_elim (λ n. inl (longer n)) (λ z. inr (ap last z)) p.object_names };
    grant = p.grant;
    filters = p.filters;
    exclusive = p.exclusive;
  }
    where
      longer : {x : ℕ} {l : List ℕ} → Names (Carries b k) x l → Chain (Carries b k) chain_limit x (last l)
      longer {l = l} n = chain_most (names_chain l n) (omega (arith, n.few))

  pub holds_slip : Holds chain_limit b u o k → (us : List ℕ) × (os : List ℕ) × Slip b u o k us os
  holds_slip h =
      let (us, user, s) = chain_names h.reached.user_chain (omega arith) in
      let (os, object, g) = side h.reached.object_chain in
      (us, os, record { user_names = user; object_names = object; grant = rw (s, g) h.grant; filters = h.filters; exclusive = h.exclusive })
    where
      side : {g : ℕ} → Chain (Carries b k) chain_limit o g ⊎ (g ≡ 0) → (os : List ℕ) × (Names (Carries b k) o os ⊎ ZeroAlone os) × (last os ≡ g)
      side (inl c) = let (os, object, g) = chain_names c (omega arith) in (os, inl object, g)
      side (inr e) = (0 ∷ [], inr refl, sym e)
