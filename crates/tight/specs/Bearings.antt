-- M-113, "What can't bear on my rights": records that bear and records that do not, as one table. A case has a block and one record that is put into it,
-- so that without it and with it the block is otherwise the same. It says whether the record bears, and what the full question answers without it and
-- with it, by the promises of the calls. Where it bears the answers differ: no part of what bears could be left out. Where it just does not they are
-- equal. All quotations are from there, but where 01 or another request is named.
use Rattle.std.specs.Prelude.{ℕ, suc, ◌+◌, ◌*◌, ◌≡◌, cond, List, [], ◌∷◌, eqb, ltb}
use Rattle.index.specs.declared.Kind.{Kind}
use Rattle.index.specs.declared.Kind.TheVariants.{Membership, Permission, Filter}
use Rattle.index.specs.Letters.{all_rights}
use Rattle.index.specs.Block.{name_count}
use Rattle.index.specs.Message.{kind_of}
use Rattle.rights.specs.Profiles.{ordinary, strict}
use Rattle.rights.specs.Questions.{Full}
use Rattle.rights.specs.Near.{IsNear}
use Rattle.bearing.specs.Bearing.{Bearing}
use Rattle.tight.specs.Blocks.{Row, once, block}
use Rattle.tight.specs.Examples.{InEach}

-- ---- a block and one record more

-- The M, P and F records of a block; and the block, with room for no other.
pub record Records : Type 0 where
  pub ms : List Row
  pub ps : List Row
  pub fs : List Row

abbrev pub having : List Row → List Row → List Row → Records
having ms ps fs = record { ms = ms; ps = ps; fs = fs }

abbrev pub made : Records → List ℕ
made b = block b.ms b.ps b.fs 0

-- A record put in its place in a part, "by key then id" (01): before the first that comes after it, and instead of the one with its key and id, if there
-- is one.
abbrev pub rank : Row → ℕ
rank r = name_count * r.key + r.id

abbrev pub put : Row → List Row → List Row
put r [] = r ∷ []
put r (s ∷ later) = cond (ltb (rank r) (rank s)) (r ∷ s ∷ later) (cond (eqb (rank r) (rank s)) (r ∷ later) (s ∷ put r later))

-- In the part of its kind. The other two parts stay as they are.
abbrev pub put_as : Kind → Row → Records → Records
put_as Membership r b = having (put r b.ms) b.ps b.fs
put_as Permission r b = having b.ms (put r b.ps) b.fs
put_as Filter r b = having b.ms b.ps (put r b.fs)

-- The block with the record; 01: "kind (1 M, 2 P, 3 F)".
abbrev pub among : ℕ → Row → Records → List ℕ
among kind r b = made (put_as (kind_of kind) r b)

-- ---- what a case says

pub data Case : Type 0 where
  -- the record bears on the rights of the user on the object; in each profile she holds these rights without it, and others with it
  touches : (b : Records) (kind : ℕ) (r : Row) (user object before after : ℕ) → Case
  -- the record bears; without it she holds these rights in each profile, with it the same in the ordinary profile and others in the strict one
  denies : (b : Records) (kind : ℕ) (r : Row) (user object mask in_strict : ℕ) → Case
  -- the record bears; she holds these rights in each profile without it and with it, and so many M records are examined on the user's side and on the
  -- object's without it, and others with it
  counts : (b : Records) (kind : ℕ) (r : Row) (user object mask : ℕ) (before after : ℕ × ℕ) → Case
  -- the record does not bear; without it and with it she holds these rights in each profile, and so many M records are examined
  misses : (b : Records) (kind : ℕ) (r : Row) (user object mask of_user of_object : ℕ) → Case
  -- at the very limit, where R alone is asked, in the ordinary profile: the record bears, and she may read the object with it, and not without it; or it
  -- does not bear, and she may read the object neither without it nor with it
  within : (b : Records) (kind : ℕ) (r : Row) (user object : ℕ) → Case
  beyond : (b : Records) (kind : ℕ) (r : Row) (user object : ℕ) → Case

-- What `bears` promises to say of the record, 1 for yes and 0 for no, asked without it; and asked with it too.
abbrev pub Said : Records → ℕ → Row → ℕ → ℕ → ℕ → Type 0
Said b kind r u o answer = Bearing (made b) u o kind r.key r.id (0, answer)

abbrev pub SaidTwice : Records → ℕ → Row → ℕ → ℕ → ℕ → Type 0
SaidTwice b kind r u o answer = Said b kind r u o answer × Bearing (among kind r b) u o kind r.key r.id (0, answer)

-- The full question gives these of the requested rights in the profile, whatever the numbers of records examined.
abbrev pub Gives : List ℕ → ℕ → ℕ → ℕ → ℕ → ℕ → Type 0
Gives b u o request profile mask = (i : ℕ) × (j : ℕ) × Full b u o request profile (0, mask, i, j)

-- Of all four rights, it gives these in each profile.
abbrev pub InEither : List ℕ → ℕ → ℕ → ℕ → Type 0
InEither b u o mask = InEach (λ p. Gives b u o all_rights p mask)

-- So it does, and so many M records are examined.
abbrev pub InFull : List ℕ → ℕ → ℕ → ℕ → ℕ × ℕ → Type 0
InFull b u o mask numbers = InEach (λ p. Full b u o all_rights p (0, mask, numbers.0, numbers.1))

-- Of R, the mask 2, it gives this in the ordinary profile.
abbrev pub Reads : List ℕ → ℕ → ℕ → ℕ → Type 0
Reads b u o mask = Gives b u o 2 ordinary mask

abbrev pub Shows : Case → Type 0
Shows (Case.touches b kind r u o before after) =
    SaidTwice b kind r u o 1 × InEither (made b) u o before × InEither (among kind r b) u o after × (before ≡ after → ⊥)
Shows (Case.denies b kind r u o mask in_strict) =
    SaidTwice b kind r u o 1
    × InEither (made b) u o mask
    × Gives (among kind r b) u o all_rights ordinary mask
    × Gives (among kind r b) u o all_rights strict in_strict
    × (mask ≡ in_strict → ⊥)
Shows (Case.counts b kind r u o mask before after) =
    SaidTwice b kind r u o 1 × InFull (made b) u o mask before × InFull (among kind r b) u o mask after × (before ≡ after → ⊥)
Shows (Case.misses b kind r u o mask i j) = SaidTwice b kind r u o 0 × InFull (made b) u o mask (i, j) × InFull (among kind r b) u o mask (i, j)
Shows (Case.within b kind r u o) = Said b kind r u o 1 × Reads (made b) u o 0 × Reads (among kind r b) u o 2
Shows (Case.beyond b kind r u o) = Said b kind r u o 0 × Reads (made b) u o 0 × Reads (among kind r b) u o 0

-- ---- just inside

-- The user is 1 and the object 9, but where it is said.
abbrev pub memberships : List Case
memberships =
    -- "M records" "whose key is reached from user or object", by no record: her own, and the object's own.
    Case.touches (having [] (once 9 2 15 ∷ []) []) 1 (once 1 2 15) 1 9 0 15
    ∷ Case.touches (having [] (once 7 1 15 ∷ []) []) 1 (once 9 7 15) 1 9 0 15
    -- By one: of a group of hers, and of a group of the object's, name 0 where the object is in it.
    ∷ Case.touches (having (once 1 2 15 ∷ []) (once 9 3 15 ∷ []) []) 1 (once 2 3 15) 1 9 0 15
    ∷ Case.touches (having (once 9 0 15 ∷ []) (once 5 1 15 ∷ []) []) 1 (once 0 5 15) 1 9 0 15
    -- "markers too": X on a record that is there, so that the group 10 is hers, and N on one that has X. The object 32 is in the group 20.
    ∷ Case.touches (having (once 1 10 15 ∷ once 32 20 15 ∷ []) (once 0 1 15 ∷ []) []) 1 (once 1 10 271) 1 32 15 0
    ∷ Case.touches (having (once 1 10 271 ∷ once 32 20 15 ∷ []) (once 0 1 15 ∷ []) []) 1 (once 1 10 783) 1 32 0 15
    -- "masks disregarded": no right is carried from 1 to 6, nor from 32 to 6, and the group 10 of the record's is hers, or is the object's.
    ∷ Case.touches (having (once 1 5 1 ∷ once 5 6 2 ∷ once 32 20 15 ∷ []) (once 0 1 15 ∷ []) []) 1 (once 6 10 258) 1 32 15 0
    ∷ Case.touches (having (once 1 10 271 ∷ once 5 6 2 ∷ once 32 5 1 ∷ []) (once 0 1 15 ∷ []) []) 1 (once 6 10 4) 1 32 0 15 ∷ []

abbrev pub grants : List Case
grants =
    -- "P records whose key is reached from the object", "or is 0, and whose id is reached from the user"
    Case.touches (having (once 1 2 15 ∷ once 9 7 15 ∷ []) [] []) 2 (once 7 2 15) 1 9 0 15
    ∷ Case.touches (having [] [] []) 2 (once 0 1 2) 1 9 0 2
    -- A denial, which bars in the strict profile alone (M-112): the records that bear are the same in both.
    ∷ Case.denies (having (once 1 2 15 ∷ []) (once 9 1 15 ∷ []) []) 2 (once 9 2 32) 1 9 15 13 ∷ []

abbrev pub filters : List Case
filters =
    -- "F records of the object and of the groups its M records name": 9 is in 7 for M alone.
    Case.touches (having [] (once 9 1 15 ∷ []) []) 3 (once 9 20 2) 1 9 15 2
    ∷ Case.touches (having (once 9 7 1 ∷ []) (once 9 1 15 ∷ []) []) 3 (once 7 20 2) 1 9 15 2 ∷ []

-- "M-109's counts included": of her records, and of the object's, one that brings no right that she has not; and one with a marker count alone, which
-- brings none at all.
abbrev pub counted : List Case
counted =
    Case.counts (having [] (once 0 1 2 ∷ []) []) 1 (once 1 2 1) 1 9 2 (0, 0) (1, 0)
    ∷ Case.counts (having [] (once 0 1 2 ∷ []) []) 1 (once 9 7 1) 1 9 2 (0, 0) (0, 1)
    ∷ Case.counts (having [] (once 0 1 2 ∷ []) []) 1 (once 1 10 256) 1 9 2 (0, 0) (1, 0) ∷ []

-- ---- just outside

abbrev pub elsewhere : List Case
elsewhere =
    -- An M record whose key is not reached, though its group is hers; and one of name 0, where no chain from the object leads to it.
    Case.misses (having (once 1 2 15 ∷ []) (once 9 2 15 ∷ []) []) 1 (once 40 2 271) 1 9 15 1 0
    ∷ Case.misses (having [] (once 5 1 15 ∷ []) []) 1 (once 0 5 15) 1 9 0 0 0
    -- One whose key is reached only through a record with marker counts alone, from the user and from the object; M-107: it "gives no chain of any kind".
    ∷ Case.misses (having (once 1 5 256 ∷ []) (once 0 6 15 ∷ []) []) 1 (once 5 6 15) 1 9 0 1 0
    ∷ Case.misses (having (once 9 5 256 ∷ []) (once 6 1 15 ∷ []) []) 1 (once 5 6 15) 1 9 0 0 1
    -- P records: the key is reached and the id is not, 0 neither; the id is reached and the key is not.
    ∷ Case.misses (having (once 1 2 15 ∷ once 9 7 15 ∷ []) (once 9 1 2 ∷ []) []) 2 (once 7 3 15) 1 9 2 1 1
    ∷ Case.misses (having (once 1 2 15 ∷ once 9 7 15 ∷ []) (once 9 1 2 ∷ []) []) 2 (once 9 0 240) 1 9 2 1 1
    ∷ Case.misses (having (once 1 2 15 ∷ once 9 7 15 ∷ []) (once 9 1 2 ∷ []) []) 2 (once 8 2 255) 1 9 2 1 1
    -- F records: of a group of the object's group; of a group that a record with marker counts alone names; of her own group; of name 0.
    ∷ Case.misses (having (once 7 6 15 ∷ once 9 7 15 ∷ []) (once 9 1 15 ∷ []) []) 3 (once 6 20 2) 1 9 15 0 2
    ∷ Case.misses (having (once 9 7 256 ∷ []) (once 9 1 15 ∷ []) []) 3 (once 7 20 2) 1 9 15 0 1
    ∷ Case.misses (having (once 1 2 15 ∷ []) (once 9 2 15 ∷ []) []) 3 (once 2 20 2) 1 9 15 1 0
    ∷ Case.misses (having [] (once 0 1 15 ∷ []) []) 3 (once 0 20 2) 1 9 15 0 0 ∷ []

-- ---- at the very limit

-- A line of n records from x on, R each.
abbrev pub line : ℕ → ℕ → List Row
line x ℕ.zero = []
line x (suc n) = once x (x + 1) 2 ∷ line (x + 1) n

-- The last record of the line of 33 from 100 to 133, and a grant to 133 on itself; and the line without the one, and without the other.
abbrev pub last : Row
last = once 132 133 2

abbrev pub grant : Row
grant = once 133 133 2

abbrev pub shorter : Records
shorter = having (line 100 32) (grant ∷ []) []

abbrev pub ungranted : Records
ungranted = having (line 100 33) [] []

-- "by chains of at most 31 records": 132 is reached from 101 by 31, and from 100 by 32. The last record leads on from there: from the user, where 133 is
-- the object, and from the object, where 133 is the user.
abbrev pub onward : List Case
onward =
    Case.within shorter 1 last 101 133
    ∷ Case.beyond shorter 1 last 100 133
    ∷ Case.within shorter 1 last 133 101
    ∷ Case.beyond shorter 1 last 133 100 ∷ []

-- "whose key is reached from the object by at most 32", "and whose id is reached from the user by at most 32": 133 is reached from 101 by 32, and from 100
-- by 33.
abbrev pub ended : List Case
ended =
    Case.within ungranted 2 grant 101 101
    ∷ Case.beyond ungranted 2 grant 101 100
    ∷ Case.beyond ungranted 2 grant 100 101 ∷ []

-- ---- what is reached, as `is_near` is promised to say it

pub data Reach : Type 0 where
  -- on the block, whether the name is reached from the start by at most so many records: 1 for yes, 0 for no
  asked : (block : List ℕ) (start name limit answer : ℕ) → Reach

abbrev pub Reaches : Reach → Type 0
Reaches (Reach.asked b x z limit answer) = IsNear b x z limit (0, answer)

-- 1 is in 2, for M alone, and 2 in 3, for R alone.
abbrev pub steps : List ℕ
steps = block (once 1 2 1 ∷ once 2 3 2 ∷ []) [] [] 0

abbrev pub reaches : List Reach
reaches =
    -- "by chains of at most" so many "records, masks disregarded": by two, and not by one; "key to id" (01), and not back.
    Reach.asked steps 1 3 2 1
    ∷ Reach.asked steps 1 3 1 0
    ∷ Reach.asked steps 3 1 32 0
    -- A name is reached from itself, by no record.
    ∷ Reach.asked steps 1 1 0 1
    ∷ Reach.asked steps 1 2 0 0
    -- Not through a record with marker counts alone; and with N, or with X, as without them.
    ∷ Reach.asked (block (once 1 5 256 ∷ []) [] [] 0) 1 5 32 0
    ∷ Reach.asked (block (once 1 5 770 ∷ []) [] [] 0) 1 5 1 1 ∷ []
