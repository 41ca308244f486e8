-- Numbers that are small by their `or`.
use Prim.Native.Nat.{ℕ, ◌+◌, ◌^◌, ◌<◌, ◌≤◌}
use mathlib.Core.Path.{◌≡◌, ap}
use mathlib.Core.Logic.{⊎_elim}
use native.Mathlib.Nat.{eq-or-lt_of_le}
use native.Mathlib.Omega.{arith}
use lib.Bits.{bit_or, or_lt, or_add_and, and_le_l, and_le_r}
use lib.Pow.{pow_pos}
use Rattle.index.proofs.laws.Range.{lt_or_le, from_none, from_more}

-- The numbers f j to f (t - 1) are below 2 ^ k just where `seen` is.
pub record Seen (k : ℕ) (f : ℕ → ℕ) (j t seen : ℕ) : Type 0 where
  pub each_then : seen < 2 ^ k → (n : ℕ) → j ≤ n → n < t → f n < 2 ^ k
  pub only_then : ((n : ℕ) → j ≤ n → n < t → f n < 2 ^ k) → seen < 2 ^ k

pub seen_none : (k : ℕ) (f : ℕ → ℕ) (j : ℕ) → Seen k f j j 0
seen_none k f j = record { each_then = λ _. from_none (λ n. f n < 2 ^ k) j; only_then = λ _. pow_pos k }

pub seen_more : {k : ℕ} {f : ℕ → ℕ} {j t seen : ℕ} → j ≤ t → Seen k f j t seen → Seen k f j (t + 1) (bit_or seen (f t))
seen_more {k} {f} {j} {t} {seen} l s =
    record {
      each_then =
          λ h.
          let o = or_add_and seen (f t) in
          from_more (λ n. f n < 2 ^ k) j t
          (s.each_then (omega (arith, and_le_r seen (f t))))
          (omega (arith, and_le_l seen (f t)));
      only_then = λ all. or_lt k seen (f t) (s.only_then (λ n m h. all n m (omega arith))) (all t l (omega arith));
    }

-- One of the first t numbers is above zero just where `seen` is.
pub record Some (f : ℕ → ℕ) (t seen : ℕ) : Type 0 where
  pub one_then : 0 < seen → (n : ℕ) × (n < t) × (0 < f n)
  pub then_one : (n : ℕ) → n < t → 0 < f n → 0 < seen

pub some_more : {f : ℕ → ℕ} {t seen v : ℕ} → v ≡ f t → Some f t seen → Some f (t + 1) (bit_or seen v)
some_more {f} {t} {seen} {v} e s =
    let o = or_add_and seen v in
    record {
      one_then =
          λ h.
          ⊎_elim (λ (l : 0 < v). (t, omega arith, omega arith))
          (λ l. let w = s.one_then (omega (arith, and_le_r seen v)) in (w.0, omega (arith, w.1), w.2))
          (lt_or_le 0 v);
      then_one =
          λ n l h.
          ⊎_elim (λ q. let z = ap f q in omega (arith, and_le_l seen v))
          (λ q. omega (arith, s.then_one n q h, and_le_r seen v))
          (eq-or-lt_of_le {n = n} {m = t} (omega arith));
    }
