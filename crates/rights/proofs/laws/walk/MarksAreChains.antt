-- The marks after n rounds are exactly the chains of at most n records.
use Prim.Native.Nat.{ℕ, suc, ◌+◌, ◌≤◌}
use mathlib.Core.Path.{◌≡◌, refl, sym, subst, ◌∙◌}
use mathlib.Core.List.{List}
use mathlib.Core.Logic.{◌⊎◌, ◌↔◌, inl, inr, ⊎_elim}
use native.Mathlib.Numerals.{unary_clauses}
use native.Mathlib.Omega.{arith}
use native.Mathlib.Decide.{ℕ_discrete, dec_lt}
use lib.ListN.{get_or, set, replicate, get_or-replicate, length-replicate, get_or-eq_default}
use lib.Seq.{get_or-set_same, get_or-set_other}
use Rattle.index.specs.Letters.{all_rights, Mask}
use Rattle.index.specs.Block.{name_count, IsName}
use Rattle.index.proofs.laws.block.Masks.{mask_map, mask_all, mask_none}
use Rattle.rights.specs.declared.walk.Carry.{Carry}
use Rattle.rights.specs.Chain.{Chain}
use Rattle.rights.specs.Chain.Chain.{here, through}
use Rattle.rights.specs.work.Marks.{Carried, Round, Walked}
use Rattle.rights.specs.work.Marks.Walked.{done, next}

-- ---- chains over any link

module _ {Link : ℕ → ℕ → Type 0} where
  pub stays : {x z : ℕ} → Chain Link 0 x z → x ≡ z
  stays here = refl

  -- At most n records are at most one more.
  pub longer : {n x z : ℕ} → Chain Link n x z → Chain Link (suc n) x z
  longer here = here
  longer (through y l c) = through y l (longer c)

  -- At most n records are at most m, if n is at most m.
  pub up_to : {n x z : ℕ} (m : ℕ) → n ≤ m → Chain Link n x z → Chain Link m x z
  up_to m h here = here
  up_to ℕ.zero h (through y l c) = absurd (omega arith)
  up_to (suc m) h (through y l c) = through y l (up_to m (omega arith) c)

  -- A chain with one record more at its end, and without its last.
  pub on : {n x y z : ℕ} → Chain Link n x y → Link y z → Chain Link (suc n) x z
  on {z = z} here l = through z l here
  on (through y g c) l = through y g (on c l)

  last : (n : ℕ) {x z : ℕ} → Chain Link (suc n) x z → Chain Link n x z ⊎ ((y : ℕ) × Chain Link n x y × Link y z)
  last n here = inl here
  last ℕ.zero {x} (through y l c) = inr (x, here, subst (λ (v : ℕ). Link x v) (stays c) l)
  last (suc n) (through y l c) = ⊎_elim (λ d. inl (through y l d)) (λ t. inr (t.0, through y l t.1, t.2)) (last n c)

  -- A chain of at most one record more, by its last record.
  pub one_more : (n x z : ℕ) → Chain Link (suc n) x z ↔ (Chain Link n x z ⊎ ((y : ℕ) × Chain Link n x y × Link y z))
  one_more n x z = (last n, (λ s. ⊎_elim longer (λ t. on t.1 t.2) s))

-- Chains of fewer than n records.
abbrev pub Fewer : (ℕ → ℕ → Type 0) → ℕ → ℕ → ℕ → Type 0
Fewer Link ℕ.zero x z = ⊥
Fewer Link (suc n) x z = Chain Link n x z

-- ---- from the marks of a start

pub blank : (n x : ℕ) → get_or {A = ℕ} (replicate n 0) x 0 ≡ 0
blank n x =
    elim (dec_lt x n) [
      | yes l ↦ get_or-replicate n x 0 0 l
      | no f ↦ get_or-eq_default (replicate n 0) 0 (omega (arith, length-replicate {A = ℕ} n 0))
    ]

-- All marks are 0 but that of the start, which has all rights.
abbrev pub first : ℕ → List ℕ
first start = set (replicate name_count 0) start all_rights

pub first_mask : (start : ℕ) → IsName start → (z : ℕ) → Mask (get_or (first start) z 0) (λ k. z ≡ start)
first_mask start h z =
    elim (ℕ_discrete z start) [
      | yes e ↦
          subst (λ (m : ℕ). Mask m (λ k. z ≡ start))
          (sym (get_or-set_same (replicate name_count 0) start all_rights 0 (omega (arith, length-replicate {A = ℕ} name_count 0))) ∙ rw e refl)
          (mask_all (λ k. z ≡ start) (λ k. e))
      | no ne ↦
          subst (λ (m : ℕ). Mask m (λ k. z ≡ start)) (sym (get_or-set_other (replicate name_count 0) start z all_rights 0 ne ∙ blank name_count z))
          (mask_none (λ k. z ≡ start) (λ k. ne))
    ]

-- Marks are those that chains of fewer than n records bring from the start.
abbrev pub After : List ℕ → Carry → ℕ → ℕ → List ℕ → Type 0
After b carry start n ms = (z : ℕ) → Mask (get_or ms z 0) (λ k. Fewer (Carried b carry k) n start z)

module _ (b : List ℕ) (carry : Carry) (start : ℕ) where
  pub after_none : After b carry start 0 (replicate name_count 0)
  after_none z = rw (blank name_count z) (mask_none (λ k. ⊥) (λ k f. f))

  pub after_first : IsName start → After b carry start 1 (first start)
  after_first h z =
      mask_map (first_mask start h z) (λ k. Chain (Carried b carry k) 0 start z)
      (λ k l. ((λ e. subst (λ (y : ℕ). Chain (Carried b carry k) 0 start y) (sym e) here), (λ c. sym (stays c))))

  pub after_round : (n : ℕ) (ms ms₁ : List ℕ) → After b carry start (suc n) ms → Round b carry ms ms₁ → After b carry start (suc (suc n)) ms₁
  unfolding Round
  after_round n ms ms₁ was r z =
      mask_map (r z) (λ k. Chain (Carried b carry k) (suc n) start z)
      (λ k h. (
        (λ s. (one_more n start z).1 (⊎_elim (λ m. inl (((was z).1 k h).0 m)) (λ t. inr (t.0, ((was t.0).1 k h).0 t.1, t.2)) s)),
        (λ c.
            ⊎_elim (λ d. inl (((was z).1 k h).1 d)) (λ t. inr (t.0, ((was t.0).1 k h).1 t.1, t.2))
            ((one_more n start z).0 c)),
      ))

  pub marks_are_chains : {n t : ℕ} {old ms ms' : List ℕ} (r : ℕ) → After b carry start (suc r) ms → Walked b carry n old ms ms' t
      → After b carry start (suc (r + n)) ms'
  marks_are_chains r was done = simp unary_clauses was
  marks_are_chains r was (next {n = n} {ms = ms} {ms₁ = ms₁} {ms₂ = ms₂} read rd w) =
      let e : suc r + n ≡ r + suc n = omega arith in
      subst (λ (m : ℕ). After b carry start (suc m) ms₂) e (marks_are_chains (suc r) (after_round r ms ms₁ was rd) w)
