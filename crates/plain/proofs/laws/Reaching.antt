-- One step of each of the two questions that ask each other.
use Prim.Native.Nat.{ℕ, suc, ◌-◌}
use mathlib.Core.Path.{◌≡◌, refl, sym, subst}
use mathlib.Core.Bool.{Bool}
use mathlib.Core.List.{List}
use mathlib.Core.Logic.{◌↔◌, ⊎_elim}
use native.Mathlib.Omega.{arith}
use native.Mathlib.Nat.{eq-or-lt_of_le}
use Rattle.index.specs.declared.Kind.TheVariants.{Membership}
use Rattle.index.specs.Block.{size, key, id, Good}
use Rattle.index.specs.work.Checks.{Says}
use Rattle.index.proofs.laws.Answer.{says_same}
use Rattle.rights.specs.Chain.{Chain}
use Rattle.rights.specs.Chain.Chain.{here, through}
use Rattle.plain.specs.declared.reaching.Link.{Link}
use Rattle.plain.specs.work.Steps.{Linked, Onward}
use Rattle.plain.proofs.laws.Records.{linked_where}

-- Another name is not reached where no record is left;
pub not_reached : (b : List ℕ) (l : Link) (x z left : ℕ) → (x ≡ z → ⊥) → left ≡ 0 → Chain (Linked b l) left x z → ⊥
not_reached b l x z left other none here = other refl
not_reached b l x z left other none (through y s c) = omega (arith, none)

-- and else the first record of the chain leads on.
first_leads : {b : List ℕ} → Good b → (l : Link) (x z m : ℕ) → (x ≡ z → ⊥) → Chain (Linked b l) (suc m) x z
    → Onward b l m x z (size b Membership)
first_leads g l x z m other here = absurd (other refl)
first_leads {b} g l x z m other (through y s c) =
    let w = linked_where g l x y s in
    let e = sym w.1.has_id in
    (w.0, omega (arith, w.1.of.1), w.1.has_key, subst (Linked b l x) e s, subst (λ (y : ℕ). Chain (Linked b l) m y z) e c)

module _ {b : List ℕ} (g : Good b) (l : Link) (x z : ℕ) where
  -- ---- is it reached?

  -- It is the name itself.
  pub reached_here : (left : ℕ) → x ≡ z → Chain (Linked b l) left x z
  reached_here left e = subst (λ (y : ℕ). Chain (Linked b l) left x y) e here

  onward : (m : ℕ) → (x ≡ z → ⊥) → Chain (Linked b l) (suc m) x z ↔ Onward b l m x z (size b Membership)
  onward m other = ((λ c. first_leads g l x z m other c), (λ t. through (id b t.0) t.3 t.4))

  pub reached_on : (left n : ℕ) → (x ≡ z → ⊥) → (left ≡ 0 → ⊥) → n ≡ size b Membership → (t : Bool) → Says (Onward b l (left - 1) x z n) t
      → Says (Chain (Linked b l) left x z) t
  reached_on left n other some all t told =
      let e : suc (left - 1) ≡ left = omega (arith, some) in
      let same = onward (left - 1) other in
      says_same t (λ o. subst (λ (m : ℕ). Chain (Linked b l) m x z) e (same.1 (subst (Onward b l (left - 1) x z) all o)))
      (λ c. subst (Onward b l (left - 1) x z) (sym all) (same.0 (subst (λ (m : ℕ). Chain (Linked b l) m x z) (sym e) c))) told

  -- ---- is it reached through one of the first n records?

  module _ (m n : ℕ) where
    pub through_none : n ≡ 0 → Onward b l m x z n → ⊥
    through_none none t = omega (arith, none, t.1)

    -- The last of them leads on, and from its id it is reached.
    abbrev pub Last : Type 0
    Last = (key b (n - 1) ≡ x) × Linked b l x (id b (n - 1)) × Chain (Linked b l) m (id b (n - 1)) z

    pub through_last : (n ≡ 0 → ⊥) → Last → Onward b l m x z n
    through_last some t = (n - 1, omega (arith, some), t.0, t.1, t.2)

    -- It is not so: then one before it.
    pub through_rest : (n ≡ 0 → ⊥) → (Last → ⊥) → (t : Bool) → Says (Onward b l m x z (n - 1)) t → Says (Onward b l m x z n) t
    through_rest some not_last t told =
        says_same t (λ o. (o.0, omega (arith, o.1), o.2, o.3, o.4))
        (λ o.
        ⊎_elim (λ (e : o.0 ≡ n - 1). absurd (not_last (subst Is e (o.2, o.3, o.4)))) (λ before. (o.0, before, o.2, o.3, o.4))
        (eq-or-lt_of_le {n = o.0} {m = n - 1} (omega (arith, o.1)))) told
      where
        Is : ℕ → Type 0
        Is i = (key b i ≡ x) × Linked b l x (id b i) × Chain (Linked b l) m (id b i) z
