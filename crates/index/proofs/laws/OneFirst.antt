-- A promise in First form has one outcome if its accepted case has one.
use Prim.Native.Nat.{ℕ}
use mathlib.Core.Path.{◌≡◌, sym, ◌∙◌}
use mathlib.Core.Logic.{◌⊎◌, ⊎_elim}
use mathlib.Core.Logic.◌⊎◌.{inl, inr}
use mathlib.Core.List.{List, [], ◌∷◌}
use Rattle.index.specs.Numbers.{First}
use Rattle.index.proofs.laws.Firsts.{Numbered}

-- Two outcomes of the same call are equal, or both are accepted.
pub both_first : {O : Type 0} (refusal : ℕ → O) (ts : List (ℕ × Type 0)) (accepted : O → Type 0) (o o' : O)
    → First refusal ts accepted o → First refusal ts accepted o' → (o ≡ o') ⊎ (accepted o × accepted o')
both_first refusal [] accepted o o' p q = inr (p, q)
both_first refusal (t ∷ ts) accepted o o' (inl p) (inl q) = inl (p.1 ∙ sym q.1)
both_first refusal (t ∷ ts) accepted o o' (inl p) (inr q) = absurd (p.0 q.0)
both_first refusal (t ∷ ts) accepted o o' (inr p) (inl q) = absurd (q.0 p.0)
both_first refusal (t ∷ ts) accepted o o' (inr p) (inr q) = both_first refusal ts accepted o o' p.1 q.1

pub one_first : {O : Type 0} (refusal : ℕ → O) (ts : List (ℕ × Type 0)) (accepted : O → Type 0)
    → ((o o' : O) → accepted o → accepted o' → o ≡ o') → (o o' : O)
    → First refusal ts accepted o → First refusal ts accepted o' → o ≡ o'
one_first refusal ts accepted one o o' p q = ⊎_elim (λ e. e) (λ a. one o o' a.0 a.1) (both_first refusal ts accepted o o' p q)

-- Where every refusal with a number of the list satisfies P, and so does every accepted outcome, each outcome does.
pub first_cases : {O : Type 0} (P : O → Type 0) (Q : ℕ → Type 0) (refusal : ℕ → O) (accepted : O → Type 0) → ((n : ℕ) → Q n → P (refusal n))
    → ((o : O) → accepted o → P o) → (ts : List (ℕ × Type 0)) → Numbered Q ts → (o : O) → First refusal ts accepted o → P o
first_cases P Q refusal accepted u v [] s o f = v o f
first_cases P Q refusal accepted u v (t ∷ ts) s o (inl f) = rw f.1 (u t.0 s.0)
first_cases P Q refusal accepted u v (t ∷ ts) s o (inr f) = first_cases P Q refusal accepted u v ts s.1 o f.1
