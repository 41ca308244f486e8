-- Demand 3: its two halves hold. They are worded in specs/Demand3; the mill's own case is in Mill.
use Prim.Native.Nat.{ℕ}
use mathlib.Core.List.{List, [], ◌++◌}
use native.Mathlib.Omega.{arith}
use Rattle.index.specs.Calls.{Makes}
use Rattle.index.specs.History.{Labelled, Statement, History}
use Rattle.index.proofs.laws.demands.AnyOrder.{any_order}
use Rattle.index.proofs.laws.demands.Standing.{Once, Single, none, CountsWith, holds, made_counts, standing}
use Rattle.tight.specs.Demand3.{FirstHalf, CountsStanding, SecondHalf}

pub first_half : FirstHalf
first_half b b₁ b₂ ms ms' = any_order

-- What is so of the block and the statements after the messages ms.
counts : (b₀ b : List ℕ) {b₁ : List ℕ} {ms : List Labelled} {s₁ : List Statement} → Makes b₀ (0, b) → History b [] ms b₁ s₁
    → CountsWith none b₁ s₁
counts b₀ b made h = holds h (made_counts b₀ b made)

pub second_half : SecondHalf
second_half b₀ b b₁ ms s₁ made h kind x y k l = omega (arith, (counts b₀ b made h).counts kind x y k l)

-- So that the tally is a number of statements: each has its label to itself, and counts at most once in a
-- letter of a record.
pub statements_apart : (b₀ b : List ℕ) {b₁ : List ℕ} {ms : List Labelled} {s₁ : List Statement} → Makes b₀ (0, b)
    → History b [] ms b₁ s₁ → Once s₁ × Single s₁
statements_apart b₀ b made h = let c = counts b₀ b made h in (c.once, c.single)

-- "at that moment": it is so after each beginning of a history.
pub each_moment : (b₀ b : List ℕ) {b' : List ℕ} {s' : List Statement} (ms more : List Labelled) → Makes b₀ (0, b)
    → History b [] (ms ++ more) b' s'
    → (b₁ : List ℕ) × (s₁ : List Statement) × History b [] ms b₁ s₁ × CountsStanding b₁ s₁
each_moment b₀ b ms more made h = let w = standing b₀ b ms more made h in (
  w.0,
  w.1,
  w.2,
  λ kind x y k l. omega (arith, w.3.counts kind x y k l),
)
