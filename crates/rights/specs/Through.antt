-- What the filters and exclusive groups let through, whatever is granted: M-103's check of a slip asks it. (02 has no such call; a slip's "chains and
-- grant, with the filters, meet the rules", and M-107: "Slips check this too.")
use Rattle.std.specs.Prelude.{ℕ, ◌≡◌, List, [], ◌∷◌, ◌++◌, Result}
use Rattle.index.specs.declared.refusals.Refusal.{Refusal}
use Rattle.index.specs.Letters.{Mask}
use Rattle.index.specs.Numbers.{First}
use Rattle.index.specs.Block.{IsName}
use Rattle.index.specs.Calls.{block_needs}
use Rattle.rights.specs.Groups.{Open}
use Rattle.rights.specs.Held.{Passes, chain_limit}
use Rattle.rights.specs.Questions.{GivenMeans}

-- 1 and 2 of the block, then 4: "a name above 1023".
unfoldable pub through_needs : List ℕ → ℕ → ℕ → List (ℕ × Type 0)
through_needs b u o = block_needs b ++ ((4, IsName u × IsName o) ∷ [])

-- An accepted call: the number 0, and the mask of the rights that every filter of the object lets through, on an object that is open to the user.
abbrev pub Lets : List ℕ → ℕ → ℕ → (ℕ × ℕ) → Type 0
Lets b u o a = (a.0 ≡ 0) × Mask a.1 (λ k. Passes b o k × Open chain_limit b u o)

-- let_through: the number, and that mask.
unfoldable pub LetsThrough : List ℕ → ℕ → ℕ → (ℕ × ℕ) → Type 0
LetsThrough b u o a = First (λ n. (n, 0)) (through_needs b u o) (Lets b u o) a

-- What an answer of the code stands for.
unfoldable pub ThroughAnswers : List ℕ → ℕ → ℕ → Result ℕ Refusal → Type 0
ThroughAnswers b u o r = GivenMeans (LetsThrough b u o) r
