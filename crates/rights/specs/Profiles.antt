-- M-112, "Denials that win": a right that is barred, the two profiles, and held in each of them. All quotations are from there.
use Rattle.std.specs.Prelude.{ℕ, ◌+◌, ◌<◌, ◌≡◌, cond, List, ◌⊎◌, eqb}
use Rattle.index.specs.declared.Kind.TheVariants.{Permission}
use Rattle.index.specs.Letters.{right_count}
use Rattle.index.specs.Block.{count}
use Rattle.rights.specs.declared.Profile.{Profile}
use Rattle.rights.specs.declared.Profile.TheVariants.{Ordinary, Strict}
use Rattle.rights.specs.Held.{Reached, Holds}

-- "a P record counts its small letter above zero": the P record with the key g and the id s counts the small letter of right k, which is
-- four places on from the capital one. What the capital one counts does not matter.
unfoldable pub Denies : List ℕ → ℕ → ℕ → ℕ → Type 0
Denies b g s k = (k < right_count) × (0 < count b Permission g s (k + right_count))

-- "a right is barred when a P record counts its small letter above zero and is reached for that right from both sides, as a grant would be":
-- by the same chains for that right, of at most n records, and on name 0 for every object. Filters and exclusive groups have no part in it; they
-- are part of "granted as before".
pub record Barred (n : ℕ) (b : List ℕ) (u o k : ℕ) : Type 0 where
  pub s : ℕ
  pub g : ℕ
  pub denial : Denies b g s k
  pub reached : Reached n b u o k s g

-- Held, by the profile: in the ordinary one as before. "In the strict profile": "Held means granted as before and not barred."
unfoldable pub HoldsIn : Profile → ℕ → List ℕ → ℕ → ℕ → ℕ → Type 0
HoldsIn Ordinary n b u o k = Holds n b u o k
HoldsIn Strict n b u o k = Holds n b u o k × (Barred n b u o k → ⊥)

-- ---- the numbers of the profiles

abbrev pub ordinary : ℕ
ordinary = 0

abbrev pub strict : ℕ
strict = 1

-- n is the number of a profile, and not of one "other than ordinary or strict".
unfoldable pub IsProfile : ℕ → Type 0
IsProfile n = (n ≡ ordinary) ⊎ (n ≡ strict)

-- The profile that such a number stands for. (Any other number is refused, whatever this gives for it.)
unfoldable pub profile_of : ℕ → Profile
profile_of n = cond (eqb n ordinary) Ordinary Strict
