-- Tests that compute and are right either way, and the number of the first requirement that does not pass.
use Prim.Native.Nat.{ℕ, suc, ◌+◌, ◌<◌, ◌≤◌}
use mathlib.Core.Path.{◌≡◌, refl}
use mathlib.Core.Bool.{Bool, true, false, cond, ◌&&◌}
use mathlib.Core.List.{List, [], ◌∷◌}
use mathlib.Core.Logic.{inl, inr, ⊎_elim}
use native.Mathlib.Nat.{eq-or-lt_of_le}
use native.Mathlib.Omega.{arith}
use borrow.Author.Tests.{leb-true, leb-false}
use lib.Dec.{leb}
use Rattle.index.specs.Numbers.{Answers}
use Rattle.index.specs.work.Checks.{Says}
use Rattle.index.proofs.laws.Answer.{says_same}
use Rattle.index.proofs.laws.Tests.{all}

pub most_says : (a b : ℕ) → Says (a ≤ b) (leb a b)
most_says a b = go (leb a b) refl
  where
    go : (t : Bool) → leb a b ≡ t → Says (a ≤ b) t
    go true e = leb-true a b e
    go false e = λ h. absurd (omega (arith, leb-false a b e))

pub says_and : (P Q : Type 0) (s t : Bool) → Says P s → Says Q t → Says (P × Q) (s && t)
says_and P Q true true p q = (p, q)
says_and P Q true false p q = λ r. q r.1
says_and P Q false t p q = λ r. p r.0

-- Of each of the n numbers from i on.
module _ (P : ℕ → Type 0) (test : ℕ → Bool) (says : (i : ℕ) → Says (P i) (test i)) where
  from_says : (i n : ℕ) → Says ((j : ℕ) → i ≤ j → j < i + n → P j) (all test i n)
  from_says i ℕ.zero = λ j l h. absurd (omega arith)
  from_says i (suc n) =
      says_same (test i && all test (i + 1) n)
      (λ p j l h.
      ⊎_elim (λ e. rw (← e) p.0) (λ k. p.1 j (omega arith) (omega arith)) (eq-or-lt_of_le l))
      (λ p. (p i (omega arith) (omega arith), λ j l h. p j (omega arith) (omega arith)))
      (says_and (P i) _ (test i) (all test (i + 1) n) (says i) (from_says (i + 1) n))

  pub says_all : (n : ℕ) → Says ((j : ℕ) → j < n → P j) (all test 0 n)
  says_all n = says_same (all test 0 n) (λ p j h. p j (omega arith) (omega arith)) (λ p j l h. p j (omega arith)) (from_says 0 n)

-- ---- requirements in their order

-- Each test is right about its requirement.
abbrev pub Decided : List (ℕ × Type 0) → List Bool → Type 0
Decided [] ss = Unit {0}
Decided (t ∷ ts) [] = ⊥
Decided (t ∷ ts) (s ∷ ss) = Says t.1 s × Decided ts ss

-- The number of the first that does not pass; 0 where all do.
abbrev pub failing : List (ℕ × Type 0) → List Bool → ℕ
failing [] ss = 0
failing (t ∷ ts) [] = 0
failing (t ∷ ts) (s ∷ ss) = cond s (failing ts ss) t.0

pub answers_failing : (ts : List (ℕ × Type 0)) (ss : List Bool) → Decided ts ss → Answers ts (failing ts ss)
answers_failing [] ss d = refl
answers_failing (t ∷ ts) [] d = absurd d
answers_failing (t ∷ ts) (true ∷ ss) d = inr (d.0, answers_failing ts ss d.1)
answers_failing (t ∷ ts) (false ∷ ss) d = inl (d.0, refl)
