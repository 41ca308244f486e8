-- Tests that compute over a range of numbers, and what they say.
use Prim.Native.Nat.{ℕ, zero, suc, ◌+◌, ◌<◌, ◌≤◌}
use mathlib.Core.Path.{◌≡◌, refl, subst}
use mathlib.Core.Bool.{Bool, true, false, ◌&&◌, cond}
use mathlib.Core.Logic.{⊎_elim}
use native.Mathlib.Nat.{eq-or-lt_of_le}
use native.Mathlib.Omega.{arith}

pub both : (s t : Bool) → s && t ≡ true → (s ≡ true) × (t ≡ true)
both true true e = (refl, refl)
both true false e = let z : ◌≡◌ {A = ℕ} 0 1 = cc in absurd (omega arith)
both false t e = let z : ◌≡◌ {A = ℕ} 0 1 = cc in absurd (omega arith)

-- P holds of the n numbers from i on.
abbrev pub all : (ℕ → Bool) → ℕ → ℕ → Bool
all P i zero = true
all P i (suc n) = P i && all P (i + 1) n

pub all_at : (P : ℕ → Bool) (i n : ℕ) → all P i n ≡ true → (j : ℕ) → i ≤ j → j < i + n → P j ≡ true
all_at P i zero e j l h = absurd (omega arith)
all_at P i (suc n) e j l h =
    let p = both (P i) (all P (i + 1) n) e in
    ⊎_elim (λ q. subst (λ (m : ℕ). P m ≡ true) q p.0) (λ k. all_at P (i + 1) n p.1 j (omega arith) (omega arith)) (eq-or-lt_of_le l)

-- P holds of one of the n numbers from i on.
abbrev pub some : (ℕ → Bool) → ℕ → ℕ → Bool
some P i zero = false
some P i (suc n) = cond (P i) true (some P (i + 1) n)

pub some_at : (P : ℕ → Bool) (i n : ℕ) → some P i n ≡ true → (j : ℕ) × (j < i + n) × (P j ≡ true)
some_at P i zero e = let z : ◌≡◌ {A = ℕ} 0 1 = cc in absurd (omega arith)
some_at P i (suc n) e = go (λ q. some_at P (i + 1) n q) (P i) refl e
  where
    go : (some P (i + 1) n ≡ true → (j : ℕ) × (j < i + 1 + n) × (P j ≡ true)) → (t : Bool) → P i ≡ t
        → cond t true (some P (i + 1) n) ≡ true → (j : ℕ) × (j < i + suc n) × (P j ≡ true)
    go later true q e = (i, omega arith, q)
    go later false q e = let r = later e in (r.0, omega arith, r.2)
