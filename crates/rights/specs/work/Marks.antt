-- For proofs only: 01, "The walk keeps one mark per name for all 1,024 names". The marks are a list of masks, one for each
-- name.
use Rattle.std.specs.Prelude.{ℕ, suc, ◌+◌, ◌*◌, ◌^◌, ◌<◌, ◌≤◌, ◌≡◌, Bool, true, false, List, ◌⊎◌, length, get_or}
use Rattle.index.specs.declared.Kind.TheVariants.{Membership}
use Rattle.index.specs.Letters.{right_count, In, Mask}
use Rattle.index.specs.Block.{name_count, size, key}
use Rattle.rights.specs.declared.walk.Carry.{Carry}
use Rattle.rights.specs.declared.walk.Carry.TheVariants as carry
use Rattle.rights.specs.Chain.{Chain}
use Rattle.rights.specs.Groups.{Member, WithoutN, Closes}
use Rattle.rights.specs.Held.{Carries}
use Rattle.rights.specs.Examined.{HowMany, Examined}

-- Right k is in the mark of z.
abbrev pub Marked : List ℕ → ℕ → ℕ → Type 0
Marked ms k z = In k (get_or ms z 0)

-- One mark for each name, a mask of rights.
pub record Marks (ms : List ℕ) : Type 0 where
  pub names : length ms ≡ name_count
  pub small : (z : ℕ) → get_or ms z 0 < 2 ^ right_count

-- The link of a walk: an M record carries right k from x to y. It carries those of its net mask; or, masks disregarded, any, if it is a
-- membership without N, or a membership.
abbrev pub Carried : List ℕ → Carry → ℕ → ℕ → ℕ → Type 0
Carried b carry.Rights k x y = Carries b k x y
Carried b carry.WithoutN k x y = WithoutN b x y
Carried b carry.Member k x y = Member b x y

-- An M record can be one of a chain to a group that is hers: the last, or one before.
abbrev pub Leads : List ℕ → Bool → ℕ → ℕ → Type 0
Leads b true x y = Closes b x y
Leads b false x y = WithoutN b x y

-- From the marks ms right k comes to z: z has it, or one M record brings it from the mark of its key.
abbrev pub Brings : List ℕ → Carry → List ℕ → ℕ → ℕ → Type 0
Brings b carry ms k z = Marked ms k z ⊎ ((x : ℕ) × Marked ms k x × Carried b carry k x z)

-- One round: the new mark of z has what the old one had, and what one M record brings from a name's old mark.
unfoldable pub Round : List ℕ → Carry → List ℕ → List ℕ → Type 0
Round b carry ms ms' = (z : ℕ) → Mask (get_or ms' z 0) (λ k. Brings b carry ms k z)

-- The mark of z is not what it was.
abbrev pub Grew : List ℕ → List ℕ → ℕ → Type 0
Grew old ms z = get_or old z 0 ≡ get_or ms z 0 → ⊥

-- c M records are of names whose marks grew.
abbrev pub Read : List ℕ → List ℕ → List ℕ → ℕ → Type 0
Read b old ms c = HowMany (λ i. Grew old ms (key b i)) (size b Membership) c

-- n rounds, one after the other, from the marks ms to the last, and how many records they examine. A round before, the marks were old.
pub data Walked (b : List ℕ) (carry : Carry) : ℕ → List ℕ → List ℕ → List ℕ → ℕ → Type 0 where
  done : {old ms : List ℕ} → Walked b carry 0 old ms ms 0
  next : {n c t : ℕ} {old ms ms₁ ms₂ : List ℕ} → Read b old ms c → Round b carry ms ms₁ → Walked b carry n ms ms₁ ms₂ t
      → Walked b carry (suc n) old ms ms₂ (c + t)

-- One side of a question: the mark of z has the rights that a chain of at most n records carries from the start to it.
unfoldable pub Side : List ℕ → Carry → ℕ → ℕ → List ℕ → Type 0
Side b carry n start ms = (z : ℕ) → Mask (get_or ms z 0) (λ k. Chain (Carried b carry k) n start z)

-- M-109: the number of M records that it examines in n rounds is the definition's sum, and "at most four times the M records".
pub record Count (b : List ℕ) (n start examined : ℕ) : Type 0 where
  pub sum : Examined b start n examined
  pub few : examined ≤ 4 * size b Membership

-- An M record that can be the last of a chain to her group has a mark at its key and one at its id.
unfoldable pub Meets : List ℕ → List ℕ → List ℕ → Type 0
Meets b users objects = (y : ℕ) × (g : ℕ) × Closes b y g × (0 < get_or users y 0) × (0 < get_or objects g 0)
