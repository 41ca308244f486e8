-- M-111, "A plain second engine": the rights for a chain limit, as one table. A case says what it says by the promises of the two engines. All
-- quotations are from there, but where 01 or another request is named.
use Rattle.std.specs.Prelude.{ℕ, ◌+◌, List, [], ◌∷◌, ◌++◌}
use Rattle.rights.specs.HeldTo.{HeldTo}
use Rattle.plain.specs.Plain.{Within}
use Rattle.tight.specs.Blocks.{once, block, nothing, reads}
use Rattle.tight.specs.Examples.{granted, two_firms, firm, chain, far, deep}
use Rattle.tight.specs.Slips.{both_sides, zero_in_five, ring}

-- The plain engine, and "the main walk held to that limit".
pub data Engine : Type 0 where
  plain : Engine
  walk : Engine

-- What each promises of the number and the rights.
abbrev pub Promises : Engine → List ℕ → ℕ → ℕ → ℕ → ℕ → (ℕ × ℕ) → Type 0
Promises Engine.plain b u o request limit a = Within b u o request limit a
Promises Engine.walk b u o request limit a = HeldTo b u o request limit a

pub data Case : Type 0 where
  -- on the block, with chains of at most so many records, the user holds these of the requested rights on the object, by either engine
  held : (block : List ℕ) (user object request limit mask : ℕ) → Case
  -- the same by the main walk, and the plain engine refuses with 14
  walked : (block : List ℕ) (user object request limit mask : ℕ) → Case
  -- both refuse with 14
  above : (block : List ℕ) (user object request limit : ℕ) → Case

abbrev pub Shows : Case → Type 0
Shows (Case.held b u o request limit mask) = (e : Engine) → Promises e b u o request limit (0, mask)
Shows (Case.walked b u o request limit mask) = Promises Engine.walk b u o request limit (0, mask) × Promises Engine.plain b u o request limit (14, 0)
Shows (Case.above b u o request limit) = (e : Engine) → Promises e b u o request limit (14, 0)

-- ---- blocks

-- The user 100 has a chain of n records before her, R each, and its end may read 9. (X on the last record binds her, but 9 is in no group.)
abbrev pub up : ℕ → List ℕ
up n = block (chain 100 n) (once 9 (100 + n) 2 ∷ []) [] 0

-- The object 100 has it before it, and 1 may read its end.
abbrev pub down : ℕ → List ℕ
down n = block (chain 100 n) (once (100 + n) 1 2 ∷ []) [] 0

-- 65 M records: such a chain of 64, and one with a marker count alone.
abbrev pub crowd : List ℕ
crowd = block (chain 100 64 ++ (once 300 301 256 ∷ [])) (once 9 164 2 ∷ []) [] 0

-- ---- what they show

-- "a chain limit of 0"
abbrev pub direct : List Case
direct =
    -- 01: "no records at all means" the name itself: what is granted to the user on the object counts, and what is granted to her on name 0. The
    -- rights are those of the record's net mask.
    Case.held (reads 1) 1 9 15 0 2
    ∷ Case.held (granted 79) 1 9 15 0 11
    ∷ Case.held (block [] (once 0 1 2 ∷ []) [] 0) 1 9 15 0 2
    -- A group does not count, of the user or of the object; and no group of name 0.
    ∷ Case.held (up 1) 100 9 15 0 0
    ∷ Case.held (down 1) 1 100 15 0 0
    ∷ Case.held both_sides 1 9 15 0 0
    ∷ Case.held zero_in_five 1 0 15 0 0
    -- M-102: "every F record keyed by the object or by any group its M records name", whatever the limit: the group of 9 lets U through alone.
    ∷ Case.held (block (once 9 7 2 ∷ []) (once 9 1 6 ∷ []) (once 7 20 4 ∷ []) 0) 1 9 15 0 4
    -- Nobody is bound: the four objects of the two firms, of which 34 is "in no group at all", are open.
    ∷ Case.held two_firms 1 31 15 0 15
    ∷ Case.held two_firms 1 32 15 0 15
    ∷ Case.held two_firms 1 33 15 0 15
    ∷ Case.held two_firms 1 34 15 0 15 ∷ []

-- The chains that carry a right.
abbrev pub carried : List Case
carried =
    -- A chain of as many records as the limit carries, and one of a record more does not: from the user, and from the object.
    Case.held (up 2) 100 9 15 2 2
    ∷ Case.held (up 2) 100 9 15 1 0
    ∷ Case.held (down 2) 1 100 15 2 2
    ∷ Case.held (down 2) 1 100 15 1 0
    ∷ Case.held (up 8) 100 9 15 8 2
    ∷ Case.held (up 9) 100 9 15 8 0
    ∷ Case.held (down 8) 1 100 15 8 2
    ∷ Case.held (down 9) 1 100 15 8 0
    -- Each side has the limit to itself.
    ∷ Case.held both_sides 1 9 15 1 2
    -- 01: "or g is 0" needs no chain; but name 0 leads on to its own group only where a chain from the object reaches it.
    ∷ Case.held zero_in_five 1 8 15 1 0
    ∷ Case.held zero_in_five 1 8 15 2 2
    ∷ Case.held zero_in_five 1 9 15 8 0
    -- 01: "loops are harmless."
    ∷ Case.held ring 1 9 15 8 2
    -- "the rights of the full question": "limited to the rights requested", 01; in the ordinary profile, so that r, denied to a group of hers, bars
    -- nothing (M-112).
    ∷ Case.held (granted 15) 1 9 5 0 5
    ∷ Case.held (granted 15) 1 9 8 8 8
    ∷ Case.held both_sides 1 9 4 8 0
    ∷ Case.held (block (once 1 2 2 ∷ []) (once 9 1 2 ∷ once 9 2 32 ∷ []) [] 0) 1 9 15 8 2 ∷ []

-- "marker chains too"
abbrev pub marked : List Case
marked =
    -- M-107: "objects in no group at all, or from which a chain" "reaches one of her groups".
    Case.held two_firms 1 31 15 1 15
    ∷ Case.held two_firms 1 32 15 1 0
    ∷ Case.held two_firms 1 33 15 1 0
    ∷ Case.held two_firms 1 34 15 1 15
    -- The user 100 is bound by a chain of 2 records, and 99 is not in her group: at limit 2 it is shut. At limit 1 she is not bound, and holds the
    -- right: a lower limit may show more.
    ∷ Case.held (far 2) 100 99 15 2 0
    ∷ Case.held (far 2) 100 99 15 1 2
    ∷ Case.held (far 2) 100 99 15 0 2
    ∷ Case.held (far 2) 100 98 15 2 2
    ∷ Case.held (far 8) 100 99 15 8 0
    ∷ Case.held (far 9) 100 99 15 8 2
    -- Her group is reached from the object 100 by as many records as the limit, and by one more.
    ∷ Case.held (deep 2) 1 100 15 2 2
    ∷ Case.held (deep 2) 1 100 15 1 0
    ∷ Case.held (deep 8) 1 100 15 8 2
    ∷ Case.held (deep 9) 1 100 15 8 0
    -- M-107: "counts N in none of them": with N on the first record she is not bound, without it she is, by 2 records. N stops no right.
    ∷ Case.held (firm (once 1 5 527 ∷ once 5 10 271 ∷ [])) 1 32 15 2 15
    ∷ Case.held (firm (once 1 5 15 ∷ once 5 10 271 ∷ [])) 1 32 15 2 0
    ∷ Case.held (firm (once 1 5 15 ∷ once 5 10 271 ∷ [])) 1 32 15 1 15
    ∷ Case.held (block (once 1 2 514 ∷ []) (once 9 2 2 ∷ []) [] 0) 1 9 15 1 2 ∷ []

-- "14 for a limit above 8": the main walk goes on to 32. Of long chains R alone is asked.
abbrev pub further : List Case
further =
    Case.walked (up 2) 100 9 15 32 2
    ∷ Case.walked (up 9) 100 9 15 9 2
    ∷ Case.walked (down 9) 1 100 15 9 2
    ∷ Case.walked (far 9) 100 99 15 9 0
    ∷ Case.walked (deep 9) 1 100 15 9 2
    ∷ Case.walked (up 32) 100 9 2 32 2
    ∷ Case.walked (up 32) 100 9 2 31 0
    ∷ Case.walked (far 32) 100 99 2 32 0
    ∷ Case.walked (far 32) 100 99 2 31 2
    ∷ Case.above nothing 1 9 15 33 ∷ []

-- 14 for "more than 64 M records", at limit 0 too.
abbrev pub crowded : List Case
crowded = Case.walked crowd 164 9 2 0 2 ∷ []
