-- M-111, "A plain second engine": "the main walk held to that limit". All quotations are from there. The limit is of every chain: "marker
-- chains too". It touches neither the filters nor whether an object is in no group at all. At limit 0 nobody is bound, since a chain to a group
-- of hers has a record; so a lower limit may show more: a group of hers that lies further off does not bind.
use Rattle.std.specs.Prelude.{ℕ, ◌≤◌, ◌≡◌, List, Result}
use Rattle.index.specs.declared.refusals.Refusal.{Refusal}
use Rattle.index.specs.Numbers.{First}
use Rattle.rights.specs.declared.Profile.TheVariants.{Ordinary}
use Rattle.rights.specs.Held.{chain_limit}
use Rattle.rights.specs.Questions.{last_needs, Limited, GivenMeans}

-- What a question with a limit needs: 1, 2, 4 and 5 as every question, then 14 unless Allowed, which says for what limits, and over what blocks,
-- it is asked.
unfoldable pub limit_needs : List ℕ → ℕ → ℕ → ℕ → Type 0 → List (ℕ × Type 0)
limit_needs b u o request Allowed = last_needs b u o request 14 Allowed

-- An accepted one: the number 0, and "the rights of the full question for a chain limit", in the ordinary profile.
abbrev pub HeldWithin : ℕ → List ℕ → ℕ → ℕ → ℕ → (ℕ × ℕ) → Type 0
HeldWithin limit b u o request a = (a.0 ≡ 0) × Limited Ordinary limit b u o request a.1

-- rights_to, "the main walk held to that limit": the number, and the rights. With the limit 32 they are the full question's (law `to_32`); a limit
-- above it is refused, since no chain of the rules has more records.
unfoldable pub HeldTo : List ℕ → ℕ → ℕ → ℕ → ℕ → (ℕ × ℕ) → Type 0
HeldTo b u o request limit a =
    First (λ n. (n, 0)) (limit_needs b u o request (limit ≤ chain_limit)) (HeldWithin limit b u o request) a

-- What an answer of the code stands for.
unfoldable pub AsksTo : List ℕ → ℕ → ℕ → ℕ → ℕ → Result ℕ Refusal → Type 0
AsksTo b u o request limit r = GivenMeans (HeldTo b u o request limit) r
