-- M-103, "A slip that says why": slips, as one table. A case says what it says by the promises of the calls. All quotations are from there, but where
-- 01 or another request is named.
use Rattle.std.specs.Prelude.{ℕ, ◌+◌, ◌^◌, ◌≤◌, List, [], ◌∷◌, length}
use Rattle.rights.specs.Through.{LetsThrough}
use Rattle.slips.specs.Slip.{most_names}
use Rattle.slips.specs.Calls.{ChecksSlip, Outcome, Found, FindsSlip}
use Rattle.tight.specs.Blocks.{once, block, nothing}

pub data Case : Type 0 where
  -- on the block, the two lists are checked as a slip for the user, the object and the right of this number: 1 for yes, 0 for no
  checked : (block : List ℕ) (user object right : ℕ) (users objects : List ℕ) (answer : ℕ) → Case
  -- the two lists are such a slip, and whatever lists are lent that have the places, one is found that has no more names
  found : (block : List ℕ) (user object right : ℕ) (users objects : List ℕ) → Case
  -- on the block, the filters and exclusive groups let these rights through for the user and the object
  lets : (block : List ℕ) (user object mask : ℕ) → Case

abbrev pub Shows : Case → Type 0
Shows (Case.checked b u o k us os answer) = ChecksSlip b u o (2 ^ k) us os (0, answer)
Shows (Case.found b u o k us os) =
    (xs ys : List ℕ) → most_names ≤ length xs → most_names ≤ length ys → (a : Outcome) → FindsSlip b u o (2 ^ k) xs ys a
    → Found b u o (2 ^ k) xs ys a × (a.1 + a.2 ≤ length us + length os)
Shows (Case.lets b u o mask) = LetsThrough b u o (0, mask)

-- ---- blocks: the rights are M 0, R 1, U 2 and P 3, their masks 1, 2, 4 and 8

-- 1 is in the group 2 and 9 in the group 7, for R; the group 2 may read what is in 7.
abbrev pub both_sides : List ℕ
both_sides = block (once 1 2 2 ∷ once 9 7 2 ∷ []) (once 7 2 2 ∷ []) [] 0

-- 0 is in the group 5, and 8 in 0; 1 may read what is in 5.
abbrev pub zero_in_five : List ℕ
zero_in_five = block (once 0 5 2 ∷ once 8 0 2 ∷ []) (once 5 1 2 ∷ []) [] 0

-- 1 and 2 are in each other; 2 may read 9, and change it.
abbrev pub ring : List ℕ
ring = block (once 1 2 2 ∷ once 2 1 2 ∷ []) (once 9 2 6 ∷ []) [] 0

-- From 1 to 3 there are two ways; 3 may read 9.
abbrev pub two_ways : List ℕ
two_ways = block (once 1 2 2 ∷ once 1 3 2 ∷ once 2 3 2 ∷ []) (once 9 3 2 ∷ []) [] 0

-- 1 may read 9 and change it; the filter of 9 lets U through alone. And the same without it.
abbrev pub filtered : List ℕ
filtered = block [] (once 9 1 6 ∷ []) (once 9 20 4 ∷ []) 0

abbrev pub unfiltered : List ℕ
unfiltered = block [] (once 9 1 6 ∷ []) [] 1

-- 1 is bound to the group 10; 31 is in it, 32 in another. She may read both.
abbrev pub bound : List ℕ
bound = block (once 1 10 258 ∷ once 31 10 2 ∷ once 32 20 2 ∷ []) (once 31 1 2 ∷ once 32 1 2 ∷ []) [] 0

-- ---- what they show

-- Chains and grants.
abbrev pub chains : List Case
chains =
    -- "the names on the user's chain, the names on the object's chain", "which end at the granting P record"
    Case.checked both_sides 1 9 1 (1 ∷ 2 ∷ []) (9 ∷ 7 ∷ []) 1
    ∷ Case.checked both_sides 1 9 1 (2 ∷ []) (9 ∷ 7 ∷ []) 0
    ∷ Case.checked both_sides 1 9 1 (1 ∷ []) (9 ∷ 7 ∷ []) 0
    -- "(or 0 by itself)": 1 may read every object. 0 leads on to its own group only where a chain from the object reaches it.
    ∷ Case.checked (block [] (once 0 1 2 ∷ []) [] 0) 1 9 1 (1 ∷ []) (0 ∷ []) 1
    ∷ Case.checked zero_in_five 1 9 1 (1 ∷ []) (0 ∷ 5 ∷ []) 0
    ∷ Case.checked zero_in_five 1 0 1 (1 ∷ []) (0 ∷ 5 ∷ []) 1
    ∷ Case.checked zero_in_five 1 8 1 (1 ∷ []) (8 ∷ 0 ∷ 5 ∷ []) 1
    -- 01: "A chain may repeat names; loops are harmless."
    ∷ Case.checked ring 1 9 1 (1 ∷ 2 ∷ 1 ∷ 2 ∷ []) (9 ∷ []) 1
    -- Another right, which the grant has and the chain has not; and one whose last record has it not.
    ∷ Case.checked ring 1 9 2 (1 ∷ 2 ∷ []) (9 ∷ []) 0
    ∷ Case.checked (block (once 1 2 2 ∷ once 2 3 4 ∷ []) (once 9 3 6 ∷ []) [] 0) 1 9 1 (1 ∷ 2 ∷ 3 ∷ []) (9 ∷ []) 0 ∷ []

-- What closes a way that the chains and the grant have.
abbrev pub closed : List Case
closed =
    -- "with the filters"
    Case.checked filtered 1 9 1 (1 ∷ []) (9 ∷ []) 0
    ∷ Case.checked filtered 1 9 2 (1 ∷ []) (9 ∷ []) 1
    ∷ Case.checked unfiltered 1 9 1 (1 ∷ []) (9 ∷ []) 1
    -- M-107: "Slips check this too."
    ∷ Case.checked bound 1 31 1 (1 ∷ []) (31 ∷ []) 1
    ∷ Case.checked bound 1 32 1 (1 ∷ []) (32 ∷ []) 0
    -- M-112: "slips belong to the ordinary one": r, denied to a group of hers on the same object, stops no slip.
    ∷ Case.checked (block (once 1 2 2 ∷ []) (once 9 1 2 ∷ once 9 2 32 ∷ []) [] 0) 1 9 1 (1 ∷ []) (9 ∷ []) 1 ∷ []

-- The longer way is a slip too, and it is not the one that is found.
abbrev pub ways : List Case
ways = Case.found two_ways 1 9 1 (1 ∷ 3 ∷ []) (9 ∷ []) ∷ Case.checked two_ways 1 9 1 (1 ∷ 2 ∷ 3 ∷ []) (9 ∷ []) 1 ∷ []

-- What comes through, whatever is granted.
abbrev pub through : List Case
through = Case.lets nothing 1 9 15 ∷ Case.lets filtered 1 9 4 ∷ Case.lets bound 1 31 15 ∷ Case.lets bound 1 32 0 ∷ []
