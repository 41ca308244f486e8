-- Requirements in their order: what an outcome says of them, and what they say of it.
use Prim.Native.Nat.{ℕ, ◌<◌, ◌≤◌}
use mathlib.Core.Path.{◌≡◌, refl, ap, sym, ◌∙◌}
use mathlib.Core.List.{List, [], ◌∷◌, ◌++◌}
use mathlib.Core.Logic.◌⊎◌.{inl, inr}
use native.Mathlib.Omega.{arith}
use Rattle.index.specs.Numbers.{First, Answers}

-- Q holds of every number in the list.
abbrev pub Numbered : (ℕ → Type 0) → List (ℕ × Type 0) → Type 0
Numbered Q [] = Unit {0}
Numbered Q (t ∷ ts) = Q t.0 × Numbered Q ts

-- Every number in the list is a refusal's.
abbrev pub Positive : List (ℕ × Type 0) → Type 0
Positive ts = Numbered (λ n. 0 < n) ts

-- All of them hold.
abbrev pub All : List (ℕ × Type 0) → Type 0
All [] = Unit {0}
All (t ∷ ts) = t.1 × All ts

module _ {O : Type 0} (refused : ℕ → O) (accepted : O → Type 0) (o : O) where
  pub first_map : (accepted' : O → Type 0) (ts : List (ℕ × Type 0)) → (accepted o → accepted' o) → First refused ts accepted o
      → First refused ts accepted' o
  first_map a [] f p = f p
  first_map a (t ∷ ts) f (inl p) = inl p
  first_map a (t ∷ ts) f (inr p) = inr (p.0, first_map a ts f p.1)

  pub first_all : (ts : List (ℕ × Type 0)) → All ts → accepted o → First refused ts accepted o
  first_all [] all p = p
  first_all (t ∷ ts) all p = inr (all.0, first_all ts all.1 p)

  pub first_sure : (ts : List (ℕ × Type 0)) → All ts → First refused ts accepted o → accepted o
  first_sure [] all p = p
  first_sure (t ∷ ts) all (inl p) = absurd (p.0 all.0)
  first_sure (t ∷ ts) all (inr p) = first_sure ts all.1 p.1

  -- By its number, which is above 0 for a refusal and then the refusal's.
  module _ (number : O → ℕ) (of_refused : (n : ℕ) → number (refused n) ≡ n) where
    pub first_passed : (ts : List (ℕ × Type 0)) → Positive ts → number o ≡ 0 → First refused ts accepted o → All ts × accepted o
    first_passed [] z e p = (tt, p)
    first_passed (t ∷ ts) z e (inl p) = absurd (omega (arith, z.0, of_refused t.0, ap number p.1))
    first_passed (t ∷ ts) z e (inr p) = let r = first_passed ts z.1 e p.1 in ((p.0, r.0), r.1)

    pub first_refused : (ts : List (ℕ × Type 0)) → (accepted o → number o ≡ 0) → (number o ≡ 0 → ⊥) → First refused ts accepted o
        → Answers ts (number o) × (o ≡ refused (number o))
    first_refused [] a n p = absurd (n (a p))
    first_refused (t ∷ ts) a n (inl p) =
        let e : number o ≡ t.0 = ap number p.1 ∙ of_refused t.0 in
        (inl (p.0, e), p.1 ∙ ap refused (sym e))
    first_refused (t ∷ ts) a n (inr p) = let r = first_refused ts a n p.1 in (inr (p.0, r.0), r.1)

-- A number that is not 0 refuses every call with these requirements.
pub refuses : {O : Type 0} (refused : ℕ → O) (accepted : O → Type 0) (ts : List (ℕ × Type 0)) {r : ℕ} → (r ≡ 0 → ⊥) → Answers ts r
    → First refused ts accepted (refused r)
refuses refused accepted [] n a = absurd (n a)
refuses refused accepted (t ∷ ts) n (inl a) = inl (a.0, ap refused a.1)
refuses refused accepted (t ∷ ts) n (inr a) = inr (a.0, refuses refused accepted ts n a.1)

-- ---- more requirements follow

module _ {O : Type 0} (refused : ℕ → O) (ts us : List (ℕ × Type 0)) (accepted : O → Type 0) where
  pub refused_first : (r : ℕ) → 0 < r → Answers ts r → First refused (ts ++ us) accepted (refused r)
  refused_first r h a = go ts a
    where
      go : (ts : List (ℕ × Type 0)) → Answers ts r → First refused (ts ++ us) accepted (refused r)
      go [] e = absurd (omega arith)
      go (t ∷ ts) (inl p) = inl (p.0, ap refused p.1)
      go (t ∷ ts) (inr p) = inr (p.0, go ts p.1)

  pub passed_first : (o : O) → All ts → First refused us accepted o → First refused (ts ++ us) accepted o
  passed_first o h f = go ts h
    where
      go : (ts : List (ℕ × Type 0)) → All ts → First refused (ts ++ us) accepted o
      go [] h = f
      go (t ∷ ts) h = inr (h.0, go ts h.1)

  pub past_first : (o : O) → All ts → First refused (ts ++ us) accepted o → First refused us accepted o
  past_first o h f = go ts h f
    where
      go : (ts : List (ℕ × Type 0)) → All ts → First refused (ts ++ us) accepted o → First refused us accepted o
      go [] h f = f
      go (t ∷ ts) h (inl p) = absurd (p.0 h.0)
      go (t ∷ ts) h (inr p) = go ts h.1 p.1

  -- Where those that follow all hold, they may be left out, or put in.
  pub without_last : (o : O) → All us → First refused (ts ++ us) accepted o → First refused ts accepted o
  without_last o h f = go ts f
    where
      go : (ts : List (ℕ × Type 0)) → First refused (ts ++ us) accepted o → First refused ts accepted o
      go [] f = first_sure refused accepted o us h f
      go (t ∷ ts) (inl p) = inl p
      go (t ∷ ts) (inr p) = inr (p.0, go ts p.1)

  pub with_last : (o : O) → All us → First refused ts accepted o → First refused (ts ++ us) accepted o
  with_last o h f = go ts f
    where
      go : (ts : List (ℕ × Type 0)) → First refused ts accepted o → First refused (ts ++ us) accepted o
      go [] f = first_all refused accepted o us h f
      go (t ∷ ts) (inl p) = inl p
      go (t ∷ ts) (inr p) = inr (p.0, go ts p.1)

-- ---- the number by itself

pub passed : (ts : List (ℕ × Type 0)) {r : ℕ} → Positive ts → r ≡ 0 → Answers ts r → All ts
passed ts {r} z e a = (first_passed (λ n. n) (λ n. n ≡ 0) r (λ n. n) (λ n. refl) ts z e a).0

pub all_hold : (ts : List (ℕ × Type 0)) (r : ℕ) → Positive ts → r ≤ 0 → Answers ts r → All ts
all_hold ts r z h a = passed ts z (omega arith) a

pub answers_first : (ts us : List (ℕ × Type 0)) {r : ℕ} → (r ≡ 0 → ⊥) → Answers ts r → Answers (ts ++ us) r
answers_first ts us {r} n a = refused_first (λ n. n) ts us (λ n. n ≡ 0) r (omega arith) a

pub answers_next : (ts us : List (ℕ × Type 0)) (r : ℕ) → All ts → Answers us r → Answers (ts ++ us) r
answers_next ts us r all a = passed_first (λ n. n) ts us (λ n. n ≡ 0) r all a
