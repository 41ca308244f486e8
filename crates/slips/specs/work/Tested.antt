-- For proofs only: what the small functions of the check answer for.
use Rattle.std.specs.Prelude.{ℕ, ◌^◌, ◌<◌, ◌≡◌, List, ◌⊎◌, Option, Some, None}
use Rattle.index.specs.declared.Kind.TheVariants.{Permission}
use Rattle.index.specs.Letters.{right_count}
use Rattle.rights.specs.Held.{Net, Carries}
use Rattle.slips.specs.declared.right.Right.{Right}
use Rattle.slips.specs.Slip.{last, Names, ZeroAlone}
use Rattle.slips.specs.Calls.{OneRight}

-- r is the right that the mask names alone.
pub record IsRight (mask r : ℕ) : Type 0 where
  pub few : r < right_count
  pub is : mask ≡ 2 ^ r
  pub only : (k : ℕ) → k < right_count → mask ≡ 2 ^ k → k ≡ r

-- The right that the mask names alone, or that it names none or several.
abbrev pub RightOf : ℕ → Option Right → Type 0
RightOf mask (Some right) = IsRight mask right.place
RightOf mask None = OneRight mask → ⊥

-- The two lists end at a P record that grants right k.
abbrev pub Grants : List ℕ → ℕ → List ℕ → List ℕ → Type 0
Grants b k us os = Net b Permission (last os) (last us) k

-- Right k rests on the two lists: they are a slip, the filters and exclusive groups aside.
abbrev pub RestsOn : List ℕ → ℕ → ℕ → ℕ → List ℕ → List ℕ → Type 0
RestsOn b u o k us os = Names (Carries b k) u us × ((Names (Carries b k) o os ⊎ ZeroAlone os) × Grants b k us os)
