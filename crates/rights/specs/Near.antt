-- M-113, "What can't bear on my rights": a name that is "reached from" another "by chains of at most" so many "records, masks disregarded", and the
-- call that asks whether it is. All quotations are from there, but where another paper is named.
use Rattle.std.specs.Prelude.{ℕ, ◌≤◌, Bool, List, [], ◌∷◌, ◌++◌, Result}
use Rattle.index.specs.declared.refusals.Refusal.{Refusal}
use Rattle.index.specs.Numbers.{First}
use Rattle.rights.specs.Chain.{Chain}
use Rattle.rights.specs.Groups.{Member}
use Rattle.rights.specs.Held.{chain_limit}
use Rattle.rights.specs.Questions.{YesWhen, AnswerMeans}
use Rattle.rights.specs.Through.{through_needs}

-- z is "reached from" x "by chains of at most" n "records, masks disregarded": markers are disregarded with them, but M-107: an M record "with marker
-- counts alone gives no chain of any kind". A chain of no records reaches x itself.
abbrev pub Near : ℕ → List ℕ → ℕ → ℕ → Type 0
Near n b x z = Chain (Member b) n x z

-- 1 and 2 of the block, then 4: "a name above 1023" (01), then 14 for a limit above 32, as of `rights_to`.
unfoldable pub near_needs : List ℕ → ℕ → ℕ → ℕ → List (ℕ × Type 0)
near_needs b x z limit = through_needs b x z ++ ((14, limit ≤ chain_limit) ∷ [])

-- is_near: the number, and 1 for yes or 0 for no.
unfoldable pub IsNear : List ℕ → ℕ → ℕ → ℕ → (ℕ × ℕ) → Type 0
IsNear b x z limit a = First (λ n. (n, 0)) (near_needs b x z limit) (YesWhen (Near limit b x z)) a

-- What an answer of the code stands for.
unfoldable pub AsksNear : List ℕ → ℕ → ℕ → ℕ → Result Bool Refusal → Type 0
AsksNear b x z limit r = AnswerMeans (IsNear b x z limit) r
