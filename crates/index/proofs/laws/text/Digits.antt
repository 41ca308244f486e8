-- A number in decimal, with room for d digits.
use Prim.Native.Nat.{ℕ, suc, ◌+◌, ◌*◌, ◌/◌, ◌%◌, ◌<◌, ◌≤◌}
use mathlib.Core.Path.{◌≡◌, sym, ap, ◌∙◌}
use mathlib.Core.List.{List, [], ◌∷◌, ◌++◌}
use mathlib.Core.Logic.{⊎_elim}
use lib.ListN.{length, length-append}
use native.Mathlib.Omega.{arith}
use borrow.Author.Tests.{lt-ltb, le-ltb}
use Rattle.index.specs.Text.{digits_of}
use Rattle.index.proofs.laws.Range.{lt_or_le}

-- 10 ^ d
abbrev pub ten : ℕ → ℕ
ten ℕ.zero = 1
ten (suc d) = 10 * ten d

pub digits_small : (d n : ℕ) → n < 10 → digits_of (suc d) n ≡ (48 + n) ∷ []
unfolding digits_of
digits_small d n h = simp (lt-ltb n 10 h)

pub digits_step : (d n : ℕ) → 10 ≤ n → digits_of (suc d) n ≡ digits_of d (n / 10) ++ ((48 + n % 10) ∷ [])
unfolding digits_of
digits_step d n h = simp (le-ltb n 10 h)

-- More digits than enough change nothing.
pub digits_more : (d n : ℕ) → n < ten (suc d) → digits_of (suc (suc d)) n ≡ digits_of (suc d) n
digits_more ℕ.zero n h = digits_small 1 n (omega arith) ∙ sym (digits_small 0 n (omega arith))
digits_more (suc d) n h =
    ⊎_elim (λ k. digits_small (suc (suc d)) n k ∙ sym (digits_small (suc d) n k))
    (λ k. digits_step (suc (suc d)) n k
    ∙ ap (λ (l : List ℕ). l ++ ((48 + n % 10) ∷ [])) (digits_more d (n / 10) (omega arith))
    ∙ sym (digits_step (suc d) n k))
    (lt_or_le n 10)

-- A number below 10 ^ k has at most k digits; 0 has one.
pub digits_long : (d k n : ℕ) → n < ten (suc k) → length (digits_of d n) ≤ suc k
digits_long ℕ.zero k n h = unfold digits_of in omega arith
digits_long (suc d) ℕ.zero n h = omega (arith, ap length (digits_small d n (omega arith)))
digits_long (suc d) (suc k) n h =
    ⊎_elim (λ l. omega (arith, ap length (digits_small d n l)))
    (λ l.
    omega (
      arith,
      ap length (digits_step d n l),
      length-append (digits_of d (n / 10)) ((48 + n % 10) ∷ []),
      digits_long d k (n / 10) (omega arith),
    ))
    (lt_or_le n 10)
