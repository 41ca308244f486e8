-- What holds of each number from a on, below n.
use Prim.Native.Nat.{ℕ, zero, suc, zero-le, suc-le-suc, ◌+◌, ◌<◌, ◌≤◌}
use mathlib.Core.Path.{sym, subst}
use mathlib.Core.Logic.{◌⊎◌, inl, inr, ⊎_elim}
use native.Mathlib.Nat.{eq-or-lt_of_le}
use native.Mathlib.Omega.{arith}

pub lt_or_le : (a b : ℕ) → (a < b) ⊎ (b ≤ a)
lt_or_le zero zero = inr zero-le
lt_or_le zero (suc b) = inl (suc-le-suc zero-le)
lt_or_le (suc a) zero = inr zero-le
lt_or_le (suc a) (suc b) = ⊎_elim (λ p. inl (suc-le-suc p)) (λ q. inr (suc-le-suc q)) (lt_or_le a b)

module _ (P : ℕ → Type 0) where
  pub from_none : (a k : ℕ) → a ≤ k → k < a → P k
  from_none a k l h = absurd (omega arith)

  pub from_more : (a n : ℕ) → ((k : ℕ) → a ≤ k → k < n → P k) → P n → (k : ℕ) → a ≤ k → k < n + 1 → P k
  from_more a n all here k l h =
      let k≤n : k ≤ n = omega arith in
      ⊎_elim (λ e. subst P (sym e) here) (λ lt. all k l lt) (eq-or-lt_of_le k≤n)

-- What holds of each of the first n numbers, one by one.
abbrev pub Listed : (ℕ → Type 0) → ℕ → Type 0
Listed P zero = Unit {0}
Listed P (suc n) = P 0 × Listed (λ k. P (suc k)) n

pub listed : (P : ℕ → Type 0) (n : ℕ) → Listed P n → (k : ℕ) → k < n → P k
listed P zero a k h = absurd (omega arith)
listed P (suc n) a zero h = a.0
listed P (suc n) a (suc k) h = listed (λ k. P (suc k)) n a.1 k (omega arith)
