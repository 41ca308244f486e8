-- M-109, "How many records a walk reads": the number of M records that the walk of one side examines. All quotations are from there.
use Rattle.std.specs.Prelude.{ℕ, suc, ◌+◌, ◌*◌, ◌<◌, ◌≤◌, List}
use Rattle.index.specs.declared.Kind.TheVariants.{Membership}
use Rattle.index.specs.Letters.{right_count}
use Rattle.index.specs.Block.{size, key}
use Rattle.rights.specs.Chain.{Chain}
use Rattle.rights.specs.Held.{Carries}

-- "A name's mark in round n is the set of rights that some chain of at most n records carries to it": right k is in the mark of
-- x, where the walk starts at s. So "in round 0 the start has all four, the others none" (law `round_zero`).
unfoldable pub Mark : List ℕ → ℕ → ℕ → ℕ → ℕ → Type 0
Mark b s n x k = Chain (Carries b k) n s x

-- Right k is in the mark of x in "the round before" round n: "before round 0 nobody has any".
unfoldable pub MarkBefore : List ℕ → ℕ → ℕ → ℕ → ℕ → Type 0
MarkBefore b s ℕ.zero x k = ⊥
MarkBefore b s (suc n) x k = Mark b s n x k

-- In round n the mark of x "differs from the round before": it has a right that it had not. It has lost none (law `never_less`).
unfoldable pub Differs : List ℕ → ℕ → ℕ → ℕ → Type 0
Differs b s n x = (k : ℕ) × (k < right_count) × Mark b s n x k × (MarkBefore b s n x k → ⊥)

-- n of the numbers below m are such that P holds of them. Below 0 there is none; with the number m too they are one more where P holds
-- of m, and as many as before where it does not.
pub data HowMany (P : ℕ → Type 0) : ℕ → ℕ → Type 0 where
  none : HowMany P 0 0
  one : {m n : ℕ} → P m → HowMany P m n → HowMany P (suc m) (suc n)
  other : {m n : ℕ} → (P m → ⊥) → HowMany P m n → HowMany P (suc m) n

-- "The number is, summed over rounds 0 to 31, the M records whose key's mark differs from the round before": over the rounds
-- below r the sum is t. The M records are numbered from 0 up to how many there are, and each counts, whatever it carries, one with
-- marker counts alone too. "Request, filter and markers have no part in it."
pub data Examined (b : List ℕ) (s : ℕ) : ℕ → ℕ → Type 0 where
  before : Examined b s 0 0
  round : {r t n : ℕ} → Examined b s r t → HowMany (λ i. Differs b s r (key b i)) (size b Membership) n
      → Examined b s (suc r) (t + n)

-- "rounds 0 to 31" are so many.
abbrev pub round_count : ℕ
round_count = 32

-- "each number at most four times the M records"
abbrev pub AtMostFourTimes : Type 0
AtMostFourTimes = (b : List ℕ) (s t : ℕ) → Examined b s round_count t → t ≤ 4 * size b Membership
