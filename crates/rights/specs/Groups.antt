-- M-107, "Exclusive groups": which groups are a user's own, and what is open to her then. All quotations are from there. A name is reached
-- here by a chain only, name 0 too.
use Rattle.std.specs.Prelude.{ℕ, suc, ◌<◌, ◌≡◌, List, ◌⊎◌}
use Rattle.index.specs.declared.Kind.TheVariants.{Membership}
use Rattle.index.specs.Letters.{marker_x, marker_n}
use Rattle.index.specs.Block.{count}
use Rattle.rights.specs.Chain.{Chain}

-- "masks disregarded": x is a member of the group y. An M record "with marker counts alone gives no chain of any kind and no first-level
-- group": one of the eight letters has a count above zero.
unfoldable pub Member : List ℕ → ℕ → ℕ → Type 0
Member b x y = (k : ℕ) × (k < marker_x) × (0 < count b Membership x y k)

-- It is, and its record "counts N in none", so that N stops a chain whether or not the record has X too.
unfoldable pub WithoutN : List ℕ → ℕ → ℕ → Type 0
WithoutN b x y = Member b x y × (count b Membership x y marker_n ≡ 0)

-- A record that can be the last: "counts N in none of them and X in the last".
unfoldable pub Closes : List ℕ → ℕ → ℕ → Type 0
Closes b y g = WithoutN b y g × (0 < count b Membership y g marker_x)

-- "a chain of 1 to" n "records, masks disregarded, counts N in none of them and X in the last; the group it ends at is hers"
pub data Hers (b : List ℕ) (u : ℕ) : ℕ → ℕ → Type 0 where
  ends : {n g : ℕ} (y : ℕ) → Chain (WithoutN b) n u y → Closes b y g → Hers b u (suc n) g

-- "A user is bound if" there is such a group.
unfoldable pub Bound : ℕ → List ℕ → ℕ → Type 0
Bound n b u = (g : ℕ) × Hers b u n g

-- "objects in no group at all"
unfoldable pub InNoGroup : List ℕ → ℕ → Type 0
InNoGroup b o = (y : ℕ) → Member b o y → ⊥

-- objects "from which a chain of 0 to" n "records, masks and markers disregarded, reaches one of her groups"
unfoldable pub InHers : ℕ → List ℕ → ℕ → ℕ → Type 0
InHers n b u o = (g : ℕ) × Hers b u n g × Chain (Member b) n o g

-- "A bound user holds rights only on objects in no group at all, or from which a chain of 0 to 32 records, masks and markers disregarded,
-- reaches one of her groups." The object is open to the user.
unfoldable pub Open : ℕ → List ℕ → ℕ → ℕ → Type 0
Open n b u o = Bound n b u → InNoGroup b o ⊎ InHers n b u o
