-- M-111, "A plain second engine". All quotations are from there.
use Rattle.std.specs.Prelude.{ℕ, ◌≤◌, ◌≡◌, List, Result}
use Rattle.index.specs.declared.Kind.TheVariants.{Membership}
use Rattle.index.specs.Numbers.{First}
use Rattle.index.specs.Block.{size}
use Rattle.index.specs.declared.refusals.Refusal.{Refusal}
use Rattle.rights.specs.Questions.{GivenMeans}
use Rattle.rights.specs.HeldTo.{limit_needs, HeldWithin, AsksTo}

-- "a chain limit of 0 to 8"
abbrev pub greatest_limit : ℕ
greatest_limit = 8

-- "over at most 64 M records": all of them count, those with marker counts alone too.
abbrev pub most_records : ℕ
most_records = 64

-- "14 for a limit above 8 or more than 64 M records": neither is so.
abbrev pub Small : List ℕ → ℕ → Type 0
Small b limit = (limit ≤ greatest_limit) × (size b Membership ≤ most_records)

-- rights_within: the number, and "the rights of the full question for a chain limit". "Refusals: 1, 2, 4, 5, then 14".
unfoldable pub Within : List ℕ → ℕ → ℕ → ℕ → ℕ → (ℕ × ℕ) → Type 0
Within b u o request limit a =
    First (λ n. (n, 0)) (limit_needs b u o request (Small b limit)) (HeldWithin limit b u o request) a

-- What an answer of the code stands for.
unfoldable pub AsksWithin : List ℕ → ℕ → ℕ → ℕ → ℕ → Result ℕ Refusal → Type 0
AsksWithin b u o request limit r = GivenMeans (Within b u o request limit) r

-- "proved equal to the main walk held to that limit": on every block, user, object and request, where 14 is not due of the plain engine, what it
-- promises to answer and what `rights_to` promises are the same answer, a refusal too.
abbrev pub EnginesAgree : Type 0
EnginesAgree =
    (b : List ℕ) (u o request limit : ℕ) (r s : Result ℕ Refusal) → limit ≤ greatest_limit → size b Membership ≤ most_records
    → AsksWithin b u o request limit r → AsksTo b u o request limit s → r ≡ s
