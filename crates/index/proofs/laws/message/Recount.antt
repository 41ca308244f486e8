-- The counts of a record are written one after the other.
use Prim.Native.Nat.{ℕ, ◌+◌, ◌*◌, ◌<◌, ◌≤◌}
use mathlib.Core.Path.{◌≡◌, refl, ◌∙◌, sym}
use mathlib.Core.List.{List}
use mathlib.Core.Logic.{⊎_elim}
use native.Mathlib.Decide.{ℕ_discrete}
use native.Mathlib.Omega.{arith}
use Rattle.index.specs.Letters.{letter_count}
use Rattle.index.specs.Block.{place, count_at}
use Rattle.index.specs.work.Bytes.{Put, Inside}
use Rattle.index.specs.work.Edits.{bit}
use Rattle.index.proofs.laws.block.Bytes.{inside_none, inside_then, number_below, number_above, count_number}
use Rattle.index.proofs.laws.Range.{lt_or_le}

-- Those of the letters below k are written.
pub record Partly (i less more k : ℕ) (b₀ b : List ℕ) : Type 0 where
  pub rest : Inside (place i + 4) (place (i + 1)) b₀ b
  pub written : (n : ℕ) → n < k → n < letter_count → count_at b i n + bit less n ≡ count_at b₀ i n + bit more n
  pub still : (n : ℕ) → k ≤ n → n < letter_count → count_at b i n ≡ count_at b₀ i n

pub begun : (i less more : ℕ) (b : List ℕ) → Partly i less more 0 b b
begun i less more b =
    record { rest = inside_none _ _ b; written = λ n l h. absurd (omega arith); still = λ n l h. refl }

-- The count of letter n, where letter k was written.
unwritten : (i k n : ℕ) {v : ℕ} {b b' : List ℕ} → Put (place i + 4 + 2 * k) v b b' → (n ≡ k → ⊥) → n < letter_count
    → count_at b' i n ≡ count_at b i n
unwritten i k n {v} {b} {b'} w ne h =
    count_number b' i n h
    ∙ ⊎_elim (λ l. number_below w.rest _ (omega arith)) (λ l. number_above w.rest _ (omega arith)) (lt_or_le n k)
    ∙ sym (count_number b i n h)

pub stepped : {i less more k v : ℕ} {b₀ b b' : List ℕ} → Partly i less more k b₀ b → k < letter_count
    → Put (place i + 4 + 2 * k) v b b' → v + bit less k ≡ count_at b₀ i k + bit more k → Partly i less more (k + 1) b₀ b'
stepped {i} {less} {more} {k} {v} {b₀} {b} {b'} p l w e =
    record {
      rest = inside_then p.rest w.rest (omega arith) (omega arith);
      written =
          λ n h m.
          elim (ℕ_discrete n k) [
            | yes q ↦ rw q (omega (arith, count_number b' i k l, w.here))
            | no ne ↦ omega (arith, unwritten i k n w ne m, p.written n (omega arith) m)
          ];
      still = λ n h m. unwritten i k n w (omega arith) m ∙ p.still n (omega arith) m;
    }
