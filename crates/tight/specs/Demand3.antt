-- Demand 3, each half as one statement.
use Rattle.std.specs.Prelude.{ℕ, ◌<◌, ◌≡◌}
use mathlib.Core.List.{List, [], Permᴰ}
use Rattle.index.specs.declared.Kind.{Kind}
use Rattle.index.specs.Letters.{letter_count}
use Rattle.index.specs.Block.{Good, count}
use Rattle.index.specs.Wide.{Sent}
use Rattle.index.specs.Calls.{Makes}
use Rattle.index.specs.History.{Accepted, Labelled, Statement, History, tally}

-- "Take any good block and any list of messages. If two orders of that list are both accepted without a refusal, the two
-- blocks end equal, byte for byte."
abbrev pub FirstHalf : Type 0
FirstHalf =
    (b b₁ b₂ : List ℕ) (ms ms' : List Sent) → Good b → Permᴰ ms ms' → Accepted b ms b₁ → Accepted b ms' b₂
    → b₁ ≡ b₂

-- "each count, 0 for a missing record, equals the number of statements standing at that moment with that record and that
-- letter"
abbrev pub CountsStanding : List ℕ → List Statement → Type 0
CountsStanding b s = (kind : Kind) (x y k : ℕ) → k < letter_count → count b kind x y k ≡ tally s kind x y k

-- "If the block began empty, and every message quotes as its previous state just what the last accepted message of the same
-- statement left, then" so it is "at that moment": after the messages ms, whatever more may follow.
abbrev pub SecondHalf : Type 0
SecondHalf =
    (b₀ b b₁ : List ℕ) (ms : List Labelled) (s₁ : List Statement) → Makes b₀ (0, b) → History b [] ms b₁ s₁
    → CountsStanding b₁ s₁
