-- 01, "Examples to hold it to": the starred ones, as one table, with some of M-100, M-101, M-102, M-107, M-109 and M-112. A case says what it says
-- by the promises of the calls.
use Rattle.std.specs.Prelude.{ℕ, suc, ◌+◌, ◌-◌, ◌≤◌, ◌≡◌, List, [], ◌∷◌, ◌++◌, length, drop}
use Rattle.index.specs.declared.Kind.{Kind}
use Rattle.index.specs.declared.Kind.TheVariants.{Membership, Permission, Filter}
use Rattle.index.specs.Letters.{letter_count, all_rights}
use Rattle.index.specs.Block.{IsName, Sized, Good}
use Rattle.index.specs.Message.{IsKind, kind_of}
use Rattle.index.specs.Wide.{Sent}
use Rattle.index.specs.Wide.Sent.{plain, wide}
use Rattle.index.specs.Calls.{Sends, WritesSet, ReadsSet}
use Rattle.rights.specs.Profiles.{ordinary, strict, IsProfile}
use Rattle.rights.specs.Questions.{Full}
use Rattle.tight.specs.Blocks.{twos, Row, once, block, zeros, takes_x, adds_x, half_bytes, giving, withdrawing, moving, Several, absent, several, nothing, reads, give, withdraw}

pub data Case : Type 0 where
  -- on the block, the user holds these rights on the object, in each profile, and so many M records are examined on the user's side and
  -- on the object's
  rights : (block : List ℕ) (user object mask of_user of_object : ℕ) → Case
  -- on the block, the user holds these rights on the object, in the ordinary profile and in the strict one, and so many M records are
  -- examined, in either
  profiles : (block : List ℕ) (user object mask in_strict of_user of_object : ℕ) → Case
  -- on the block, the user holds these rights on every object, in the ordinary profile and in the strict one, whatever the numbers of
  -- records examined
  everywhere : (block : List ℕ) (user mask in_strict : ℕ) → Case
  -- on the block, the user holds these rights on the object, in the ordinary profile and in the strict one, whatever the numbers of records
  -- examined
  holds : (block : List ℕ) (user object mask in_strict : ℕ) → Case
  -- the set of the kind and key in the block has n records and is written so, and the text is read back
  text : (block : List ℕ) (kind key : ℕ) (text : List ℕ) (n : ℕ) → Case
  -- the text is refused with 9, and this is its place among texts of each kind
  wrong : (text : List ℕ) (place : Kind → ℕ) → Case
  -- the empty text is accepted, with 0 records
  empty : Case
  -- the message is accepted, and the block is then this
  accepted : (block : List ℕ) (message : Sent) (after : List ℕ) → Case
  -- the message is refused with the number, and the block is as it was
  refused : (block : List ℕ) (message : Sent) (number : ℕ) → Case
  -- the message is refused with 3, and the block is as it was
  malformed : (block : List ℕ) (message : Sent) → Case

-- On every good block, for every kind and key.
abbrev pub Anywhere : (List ℕ → ℕ → ℕ → Type 0) → Type 0
Anywhere P = (b : List ℕ) (kind x : ℕ) → Sized b → Good b → IsKind kind → IsName x → P b kind x

-- In each profile.
abbrev pub InEach : (ℕ → Type 0) → Type 0
InEach P = (p : ℕ) → IsProfile p → P p

abbrev pub Shows : Case → Type 0
Shows (Case.rights b u o mask i j) = InEach (λ p. Full b u o all_rights p (0, mask, i, j))
Shows (Case.profiles b u o mask in_strict i j) =
    Full b u o all_rights ordinary (0, mask, i, j) × Full b u o all_rights strict (0, in_strict, i, j)
Shows (Case.everywhere b u mask in_strict) =
    (o : ℕ) → IsName o
    → (i : ℕ) × (j : ℕ) × Full b u o all_rights ordinary (0, mask, i, j) × Full b u o all_rights strict (0, in_strict, i, j)
Shows (Case.holds b u o mask in_strict) =
    (i : ℕ) × (j : ℕ) × Full b u o all_rights ordinary (0, mask, i, j) × Full b u o all_rights strict (0, in_strict, i, j)
Shows (Case.text b kind x t n) =
    ((out : List ℕ) → length t ≤ length out → WritesSet b kind x out (0, length t, t ++ drop (length t) out))
    × ReadsSet b kind x t (0, n, b)
Shows (Case.wrong t place) = Anywhere (λ b kind x. ReadsSet b kind x t (9, place (kind_of kind), b))
Shows Case.empty =
    Anywhere (λ b kind x. (o : ℕ × ℕ × List ℕ) → ReadsSet b kind x [] o → (o.0 ≡ 0) × (o.1 ≡ 0))
Shows (Case.accepted b m b') = Sends b m (0, b')
Shows (Case.refused b m n) = Sends b m (n, b)
Shows (Case.malformed b m) = Sends b m (3, b)

-- A place that is the same for all kinds, and one that is another for permissions.
abbrev pub always : ℕ → Kind → ℕ
always n kind = n

abbrev pub either : ℕ → ℕ → Kind → ℕ
either n m Membership = n
either n m Permission = m
either n m Filter = n

-- And one that is another for memberships.
abbrev pub memberships : ℕ → ℕ → Kind → ℕ
memberships n m Membership = n
memberships n m Permission = m
memberships n m Filter = m

-- The block with one P record, as one statement with this mask leaves it.
abbrev pub granted : ℕ → List ℕ
granted mask = block [] (once 9 1 mask ∷ []) [] 0

-- "id 3 with M, R, U once, id 12 with M, R once and U twice"
abbrev pub two_records : List ℕ
two_records = block [] (once 7 3 7 ∷ record { key = 7; id = 12; counts = 1 ∷ 1 ∷ 2 ∷ zeros (letter_count - 3) } ∷ []) [] 0

-- "`3;MRU;12;MRU2`"
--        3    ;    M    R    U    ;    1    2    ;    M    R    U    2
abbrev pub two_text : List ℕ
two_text = 51 ∷ 59 ∷ 77 ∷ 82 ∷ 85 ∷ 59 ∷ 49 ∷ 50 ∷ 59 ∷ 77 ∷ 82 ∷ 85 ∷ 50 ∷ []

abbrev pub masks : List Case
masks =
    -- "P mask 135 gives net 7; 79 gives 11."
    Case.accepted nothing (plain (giving 2 9 1 135)) (granted 135)
    ∷ Case.rights (granted 135) 1 9 7 0 0
    ∷ Case.accepted nothing (plain (giving 2 9 1 79)) (granted 79)
    ∷ Case.rights (granted 79) 1 9 11 0 0 ∷ []

abbrev pub texts : List Case
texts =
    Case.text two_records 2 7 two_text 2
    -- "Texts `3;M1`, `03;M`, `3;RM`, `3;M;`, `3;M0`, `3;`: 9 each. Empty text: accepted, 0 records." M-101: "For `3;M0` that is 3;
    -- for `3;M1` it is 4, since `3;M10` would do." The byte of 0 is 48, of 1 49, of 3 51, of `;` 59, of M 77 and of R 82.
    ∷ Case.wrong (51 ∷ 59 ∷ 77 ∷ 49 ∷ []) (always 4)
    ∷ Case.wrong (48 ∷ 51 ∷ 59 ∷ 77 ∷ []) (always 1)
    ∷ Case.wrong (51 ∷ 59 ∷ 82 ∷ 77 ∷ []) (always 3)
    ∷ Case.wrong (51 ∷ 59 ∷ 77 ∷ 59 ∷ []) (always 4)
    ∷ Case.wrong (51 ∷ 59 ∷ 77 ∷ 48 ∷ []) (always 3)
    ∷ Case.wrong (51 ∷ 59 ∷ []) (always 2)
    ∷ Case.empty
    ∷ Case.text two_records 1 7 [] 0 ∷ []

abbrev pub places : List Case
places =
    -- M-101: "the length of its longest beginning that is also a beginning of some acceptable text of that kind". A count is at
    -- most 65,535, so `3;M65536` is wrong at 7; 1023 is the last id, so `1023;M;` is wrong at 6; ids rise, so `399;M;3` is wrong
    -- at 6, for no id above 399 begins with 3; `1;M;1` is wrong only at its end, since `1;M;10;M` would do. Small letters are for
    -- permissions, so `3;mM` is wrong at 3 among them, for M stands before m, and at 2 among the others.
    Case.wrong (51 ∷ 59 ∷ 77 ∷ 54 ∷ 53 ∷ 53 ∷ 51 ∷ 54 ∷ []) (always 7)
    ∷ Case.wrong (49 ∷ 48 ∷ 50 ∷ 51 ∷ 59 ∷ 77 ∷ 59 ∷ []) (always 6)
    ∷ Case.wrong (51 ∷ 57 ∷ 57 ∷ 59 ∷ 77 ∷ 59 ∷ 51 ∷ []) (always 6)
    ∷ Case.wrong (49 ∷ 59 ∷ 77 ∷ 59 ∷ 49 ∷ []) (always 5)
    ∷ Case.wrong (51 ∷ 59 ∷ 109 ∷ 77 ∷ []) (either 2 3) ∷ []

abbrev pub chains : List Case
chains =
    -- "M records 1→2 (R), 1→3 (MRUP), 3→2 (MRUP); P key 9 id 2 MRUP: user 1 holds 15 on 9."
    Case.rights (block (once 1 2 2 ∷ once 1 3 15 ∷ once 3 2 15 ∷ []) (once 9 2 15 ∷ []) [] 0) 1 9 15 3 0
    -- "1→2 (R), 2→3 (U), P key 9 id 3 MRUP: user 1 holds 0 on 9."
    ∷ Case.rights (block (once 1 2 2 ∷ once 2 3 4 ∷ []) (once 9 3 15 ∷ []) [] 0) 1 9 0 2 0
    -- "1→1 alone, P key 0 id 1 R: user 1 holds 2 on every object."
    ∷ Case.everywhere (block (once 1 1 2 ∷ []) (once 0 1 2 ∷ []) [] 0) 1 2 2
    -- "P key 9 id 1 MRUP, F key 9 id 20 RU, F key 9 id 21 R": M-102: "The example with two filters then gives 2 in place of 6."
    ∷ Case.rights (block [] (once 9 1 15 ∷ []) (once 9 20 6 ∷ once 9 21 2 ∷ []) 0) 1 9 2 0 0
    -- M-102: "every F record keyed by the object or by any group its M records name". Of the groups 3 (RUP) and 12 (MRP) and the
    -- object 9 itself (MRU) each takes away a right that the other two let through. 9 is in 3 for M, in 12 for P.
    ∷ Case.rights
    (block (once 9 3 1 ∷ once 9 12 8 ∷ []) (once 9 1 15 ∷ []) (once 3 20 14 ∷ once 9 20 7 ∷ once 12 20 11 ∷ []) 0)
    1 9 2 0 2 ∷ []

-- M-109: 1 is in four groups, with a right each, and these stand in a ring, each a member of the next with all rights. In each of the
-- rounds 1 to 4 a right more comes to each of the four.
abbrev pub ring : List ℕ
ring =
    block
    (once 1 2 1 ∷ once 1 3 2 ∷ once 1 4 4 ∷ once 1 5 8 ∷ once 2 3 15 ∷ once 3 4 15 ∷ once 4 5 15 ∷ once 5 2 15 ∷ [])
    [] (once 9 20 1 ∷ []) 0

-- The same records without the filter, and 2 is in five groups more.
abbrev pub crowd : List ℕ
crowd =
    block
    (once 1 2 1
    ∷ once 1 3 2
    ∷ once 1 4 4
    ∷ once 1 5 8
    ∷ once 2 3 15
    ∷ once 2 6 15
    ∷ once 2 7 15
    ∷ once 2 8 15
    ∷ once 2 9 15
    ∷ once 2 10 15
    ∷ once 3 4 15
    ∷ once 4 5 15
    ∷ once 5 2 15
    ∷ [])
    [] [] 0

abbrev pub examined : List Case
examined =
    -- M-109: "the M records whose key's mark differs from the round before": those of 1 in round 0, and each of the ring's four in
    -- rounds 1 to 4, so 4 and four times 4; for the start 2 its own in round 0, and then one after the other, so 4. "Request, filter
    -- and markers have no part in it": no right is held in the three rows, and in the first the object's filter lets one right through.
    Case.rights ring 1 9 0 20 0
    ∷ Case.rights ring 9 1 0 0 20
    ∷ Case.rights ring 2 4 0 4 4
    -- Of 13 records, 4 once and 9 four times: more than three times 13.
    ∷ Case.rights crowd 1 11 0 40 0
    -- The record of a member of itself is examined once; that of a name to which no chain from the start leads, not at all.
    ∷ Case.rights (block (once 1 1 2 ∷ once 3 1 15 ∷ []) [] [] 0) 1 2 0 1 0
    -- 0 stands in full for every object, but that is no mark: its own records are examined only where a chain leads to it.
    ∷ Case.rights (block (once 0 5 15 ∷ once 8 0 2 ∷ []) (once 0 1 15 ∷ []) [] 0) 1 9 15 0 0
    ∷ Case.rights (block (once 0 5 15 ∷ once 8 0 2 ∷ []) (once 0 1 15 ∷ []) [] 0) 1 8 15 0 2 ∷ []

abbrev pub appointments : List Case
appointments =
    -- "Two statements each give R on key 9 to id 1; one is withdrawn: count 1, right held. Both: no record."
    Case.accepted nothing (plain give) (reads 1)
    ∷ Case.accepted (reads 1) (plain give) (reads 2)
    ∷ Case.accepted (reads 2) (plain withdraw) (reads 1)
    ∷ Case.rights (reads 1) 1 9 2 0 0
    ∷ Case.accepted (reads 1) (plain withdraw) nothing
    ∷ Case.rights nothing 1 9 0 0 0 ∷ []

abbrev pub limits : List Case
limits =
    -- "Count 65,535, message R to R: accepted. Another new R: 7."
    Case.accepted (reads 65535) (plain (moving 2 (half_bytes 9 1 2) (half_bytes 9 1 2))) (reads 65535)
    ∷ Case.refused (reads 65535) (plain give) 7
    -- "holding one record, a message moving its only statement to another key: accepted. A second record: 8." M-107: the block of 36
    -- bytes becomes one of 40.
    ∷ Case.accepted (reads 1) (plain (moving 2 (half_bytes 9 1 2) (half_bytes 10 1 2))) (block [] (once 10 1 2 ∷ []) [] 0)
    ∷ Case.refused (reads 1) (plain (giving 2 10 1 2)) 8 ∷ []

-- ---- M-107, "Exclusive groups"

-- The set of M records with the key 7: id 3 with M, R and N once and X twice. Its text is `3;MRX2N`.
abbrev pub marked_record : List ℕ
marked_record = block (record { key = 7; id = 3; counts = 1 ∷ 1 ∷ zeros 6 ++ (2 ∷ 1 ∷ []) } ∷ []) [] [] 0

--        3    ;    M    R    X    2    N
abbrev pub marked_text : List ℕ
marked_text = 51 ∷ 59 ∷ 77 ∷ 82 ∷ 88 ∷ 50 ∷ 78 ∷ []

-- One M record, 1→10, and room for no other: M and R count n, X and N so much.
abbrev pub member : ℕ → ℕ → ℕ → List ℕ
member n x y = block (record { key = 1; id = 10; counts = n ∷ n ∷ zeros 6 ++ (x ∷ y ∷ []) } ∷ []) [] [] 0

-- A membership with M and R and the marker X is given; it gets N in place of X, the previous half with bit 6 and the new one with bit 5.
abbrev pub give_x : List ℕ
give_x = giving adds_x 1 10 3

abbrev pub from_xto_n : List ℕ
from_xto_n = moving (takes_x + 32) (half_bytes 1 10 3) (half_bytes 1 10 3)

abbrev pub markers : List Case
markers =
    -- "Markers are taken and added with the letters": M and R with X, the same again without it, and from X to N.
    Case.accepted nothing (plain give_x) (member 1 1 0)
    ∷ Case.accepted (member 1 1 0) (plain (giving 1 1 10 3)) (member 2 1 0)
    ∷ Case.accepted (member 2 1 0) (plain from_xto_n) (member 2 0 1)
    -- What is taken is what is quoted: without its marker the statement leaves a record with a marker count alone.
    ∷ Case.accepted (member 1 1 0) (plain (withdrawing takes_x 1 10 3)) nothing
    ∷ Case.accepted (member 1 1 0) (plain (withdrawing 1 1 10 3)) (member 0 1 0)
    -- "a marker with nothing to take is 6, at 65,535 is 7"
    ∷ Case.refused (member 1 0 1) (plain (withdrawing takes_x 1 10 3)) 6
    ∷ Case.refused (member 1 65535 0) (plain give_x) 7
    -- "both markers in one half, a marker on an absent half or on kinds 2 and 3 is 3"
    ∷ Case.malformed nothing (plain (giving 49 1 10 3))
    ∷ Case.malformed nothing (plain (giving takes_x 1 10 3))
    ∷ Case.malformed nothing (plain (giving 18 1 10 3))
    ∷ Case.malformed nothing (plain (giving 19 1 10 3))
    -- "In text X and N follow the letters; P and F records have neither".
    ∷ Case.text marked_record 1 7 marked_text 1
    ∷ Case.wrong (51 ∷ 59 ∷ 88 ∷ 77 ∷ []) (memberships 3 2)
    ∷ Case.wrong (51 ∷ 59 ∷ 77 ∷ 78 ∷ 88 ∷ []) (memberships 4 3) ∷ []

-- Two firms. 1 is of the one, by the group 10, and 2 of the other, by the group 20; 3 is of neither. 31 is in the one firm's group, 32 in the
-- other's, 33 in the neutral group 40, 34 in none. All three users may do everything on every object, but for their firms.
abbrev pub everyone : List Row
everyone = once 0 1 15 ∷ once 0 2 15 ∷ once 0 3 15 ∷ []

abbrev pub objects : List Row
objects = once 31 10 15 ∷ once 32 20 15 ∷ once 33 40 15 ∷ []

abbrev pub two_firms : List ℕ
two_firms = block (once 1 10 271 ∷ once 2 20 271 ∷ objects) everyone [] 0

-- The first user's M records are these, and the objects are as before.
abbrev pub firm : List Row → List ℕ
firm own = block (own ++ objects) everyone [] 0

-- A chain of n records from x on, R each, the last with X too.
abbrev pub chain : ℕ → ℕ → List Row
chain x ℕ.zero = []
chain x (suc ℕ.zero) = once x (x + 1) 258 ∷ []
chain x (suc (suc n)) = once x (x + 1) 2 ∷ chain (x + 1) (suc n)

-- The user 100 has such a chain before her, and 99 is in the group 98.
abbrev pub far : ℕ → List ℕ
far n = block (once 99 98 2 ∷ chain 100 n) (once 0 100 2 ∷ []) [] 0

-- The object 100 has it before it, and its end is the group of the user 1.
abbrev pub deep : ℕ → List ℕ
deep n = block (once 1 (100 + n) 258 ∷ chain 100 n) (once 0 1 2 ∷ []) [] 0

abbrev pub firms : List Case
firms =
    -- "A bound user holds rights only on objects in no group at all, or from which a chain of 0 to 32 records, masks and markers
    -- disregarded, reaches one of her groups."
    Case.rights two_firms 1 31 15 1 1
    ∷ Case.rights two_firms 1 32 0 1 1
    ∷ Case.rights two_firms 1 33 0 1 1
    ∷ Case.rights two_firms 1 34 15 1 0
    ∷ Case.rights two_firms 2 31 0 1 1
    ∷ Case.rights two_firms 2 32 15 1 1
    ∷ Case.rights two_firms 3 31 15 0 1
    -- "counts N in none of them": a group in between with N, and the same without it; N on the record that has X.
    ∷ Case.rights (firm (once 1 5 527 ∷ once 5 10 271 ∷ [])) 1 32 15 2 1
    ∷ Case.rights (firm (once 1 5 15 ∷ once 5 10 271 ∷ [])) 1 32 0 2 1
    ∷ Case.rights (firm (once 1 10 783 ∷ [])) 1 32 15 1 1
    -- "X in the last": a group behind hers is not hers, so 33 stays shut, and 31 open.
    ∷ Case.rights (firm (once 1 10 271 ∷ once 10 40 15 ∷ [])) 1 33 0 2 1
    ∷ Case.rights (firm (once 1 10 271 ∷ once 10 40 15 ∷ [])) 1 31 15 2 2
    -- "masks disregarded": her group binds where no right is carried to it, and the object's chain needs none either.
    ∷ Case.rights (firm (once 1 5 1 ∷ once 5 10 258 ∷ [])) 1 32 0 2 1
    ∷ Case.rights (block (once 1 10 271 ∷ once 6 10 2 ∷ once 31 6 1 ∷ []) everyone [] 0) 1 31 15 1 2
    -- "a chain of 0" records: the object itself is her group, though it is in another group too.
    ∷ Case.rights (firm (once 1 10 271 ∷ once 10 40 15 ∷ [])) 1 10 15 2 1
    -- "one with marker counts alone gives no chain of any kind and no first-level group", on the user's side, and on the object's: 32 is
    -- not in 10, and 35 is in no group, so that 20's filter is no filter of 35. As an M record it is examined.
    ∷ Case.rights (firm (once 1 10 256 ∷ [])) 1 32 15 1 1
    ∷ Case.rights (block (once 1 10 271 ∷ once 32 10 256 ∷ once 32 20 15 ∷ []) everyone [] 0) 1 32 0 1 2
    ∷ Case.rights (block (once 1 10 271 ∷ once 35 20 256 ∷ []) everyone (once 20 7 2 ∷ []) 0) 1 35 15 1 1
    -- "a chain of 1 to 32 records": 99's group is not hers where she is bound by the 32nd, and no matter where it is the 33rd.
    ∷ Case.holds (far 32) 100 99 0 0
    ∷ Case.holds (far 33) 100 99 2 2
    -- "a chain of 0 to 32 records": from the object to her group.
    ∷ Case.holds (deep 32) 1 100 2 2
    ∷ Case.holds (deep 33) 1 100 0 0 ∷ []

-- ---- M-112, "Denials that win"

-- 1 is in the group 2 for all rights, and in 3 for R alone. 9 is in the group 7 for all rights, as 10 is, and in 8 for U alone. The group 2 may
-- do everything on 9; the other P records are those given, the ones before that one and the ones after it.
abbrev pub denying : List Row → List Row → List ℕ
denying before after =
    block (once 1 2 15 ∷ once 1 3 2 ∷ once 9 7 15 ∷ once 9 8 4 ∷ once 10 7 15 ∷ []) (before ++ (once 9 2 15 ∷ after)) [] 0

abbrev pub denials : List Case
denials =
    -- "a P record counts its small letter above zero and is reached for that right from both sides": r on the group that 9 reaches, for 1
    -- herself; and r on 9 itself, for the group that 1 reaches. The mask 32 is r alone: such a record grants nothing, and yet it bars.
    Case.profiles (denying (once 7 1 32 ∷ []) []) 1 9 15 13 2 2
    ∷ Case.profiles (denying [] (once 9 3 32 ∷ [])) 1 9 15 13 2 2
    -- By chains on both sides; and with the mask 34, R and r, so that the capital letter counts too.
    ∷ Case.profiles (denying (once 7 3 32 ∷ []) []) 1 9 15 13 2 2
    ∷ Case.profiles (denying (once 7 3 34 ∷ []) []) 1 9 15 13 2 2
    -- "for that right": 1 reaches 3 for R alone, and 9 reaches 8 for U alone. So of the four denials on 9 for 3 only r bars, of those on 8
    -- for 1 only u, of those on 8 for 3 none.
    ∷ Case.profiles (denying [] (once 9 3 240 ∷ [])) 1 9 15 13 2 2
    ∷ Case.profiles (denying (once 8 1 240 ∷ []) []) 1 9 15 11 2 2
    ∷ Case.rights (denying (once 8 3 240 ∷ []) []) 1 9 15 2 2
    -- "from both sides": on an object that 9 does not reach, and for a name that 1 does not.
    ∷ Case.rights (denying (once 6 1 240 ∷ []) []) 1 9 15 2 2
    ∷ Case.rights (denying [] (once 9 4 240 ∷ [])) 1 9 15 2 2
    -- In the record that grants: in both profiles, by the net mask. In the strict profile alone, that record's denial bars what another
    -- record grants.
    ∷ Case.rights (block [] (once 9 1 47 ∷ []) [] 0) 1 9 13 0 0
    ∷ Case.profiles (block (once 1 2 15 ∷ []) (once 9 1 47 ∷ once 9 2 15 ∷ []) [] 0) 1 9 15 13 1 0
    -- Name 0: its own groups are followed only where a chain from the object reaches it; on the user's side it is a name like any other.
    ∷ Case.rights (block (once 0 5 15 ∷ []) (once 5 1 32 ∷ once 9 1 15 ∷ []) [] 0) 1 9 15 0 0
    ∷ Case.profiles (block (once 0 5 15 ∷ once 9 0 2 ∷ []) (once 5 1 32 ∷ once 9 1 15 ∷ []) [] 0) 1 9 15 13 0 2
    ∷ Case.rights (block [] (once 9 0 240 ∷ once 9 1 15 ∷ []) [] 0) 1 9 15 0 0
    -- The user is the object.
    ∷ Case.profiles (block [] (once 0 1 15 ∷ once 1 1 32 ∷ []) [] 0) 1 1 15 13 0 0
    -- "granted as before": a record with small letters alone grants nothing, and the filters bind in each profile: of M and R, which they let
    -- through, M is barred.
    ∷ Case.rights (block [] (once 9 1 160 ∷ []) [] 0) 1 9 0 0 0
    ∷ Case.profiles (block (once 1 2 15 ∷ []) (once 9 1 15 ∷ once 9 2 144 ∷ []) (once 9 20 3 ∷ []) 0) 1 9 3 2 1 0
    -- So do exclusive groups: her own is 2, and 9 is shut to her where it is in another group, open where it is in none.
    ∷ Case.rights (block (once 1 2 271 ∷ once 9 7 15 ∷ []) (once 9 1 15 ∷ once 9 2 32 ∷ []) [] 0) 1 9 0 1 1
    ∷ Case.profiles (block (once 1 2 271 ∷ []) (once 9 1 15 ∷ once 9 2 32 ∷ []) [] 0) 1 9 15 13 1 0 ∷ []

-- m on name 0 bars create on every object.
abbrev pub denied_everywhere : List Case
denied_everywhere = Case.everywhere (block (once 1 2 15 ∷ []) (once 0 1 15 ∷ once 0 2 16 ∷ []) [] 0) 1 15 14 ∷ []

-- ---- M-100, "Statements with several objects and subjects"

-- R on each of these keys for each of these ids.
abbrev pub lot : List ℕ → List ℕ → Several
lot xs ys = record { keys = xs; ids = ys; mask = 2 }

-- R on 7 and on 9, for 3 and for 4: given, withdrawn, and left on 9 alone.
abbrev pub four : Several
four = lot (7 ∷ 9 ∷ []) (3 ∷ 4 ∷ [])

abbrev pub give_four : List ℕ
give_four = several 2 2 absent four

abbrev pub withdraw_four : List ℕ
withdraw_four = several 2 1 four absent

abbrev pub narrow_four : List ℕ
narrow_four = several 2 3 four (lot (9 ∷ []) (3 ∷ 4 ∷ []))

-- The membership of `give_x`, with its marker, in a wide message.
abbrev pub give_wide_x : List ℕ
give_wide_x = several adds_x 2 absent (record { keys = 1 ∷ []; ids = 10 ∷ []; mask = 3 })

-- The P record of a key and an id in which R counts n; and the block with such records and room for n more.
abbrev pub reader : ℕ → ℕ → ℕ → Row
reader x y n = record { key = x; id = y; counts = 0 ∷ n ∷ zeros (letter_count - 2) }

abbrev pub readers : List Row → ℕ → List ℕ
readers rows n = block [] rows [] n

abbrev pub wides : List Case
wides =
    -- "stands for every pair": four records; a plain statement gives one of them too, and when the wide one ends, that one still stands.
    -- "a wide statement counts once in each of its pairs".
    Case.accepted (readers [] 4) (wide give_four) (readers (reader 7 3 1 ∷ reader 7 4 1 ∷ reader 9 3 1 ∷ reader 9 4 1 ∷ []) 0)
    ∷ Case.accepted (readers (reader 7 3 1 ∷ reader 7 4 1 ∷ reader 9 3 1 ∷ reader 9 4 1 ∷ []) 0) (plain (giving 2 7 3 2))
    (readers (reader 7 3 2 ∷ reader 7 4 1 ∷ reader 9 3 1 ∷ reader 9 4 1 ∷ []) 0)
    ∷ Case.accepted (readers (reader 7 3 2 ∷ reader 7 4 1 ∷ reader 9 3 1 ∷ reader 9 4 1 ∷ []) 0) (wide withdraw_four)
    (readers (reader 7 3 1 ∷ []) 3)
    -- "All of the previous half is taken away, then all of the new added": there is room for two records only.
    ∷ Case.accepted (readers (reader 7 3 1 ∷ reader 7 4 1 ∷ []) 0) (wide (several 2 3 (lot (7 ∷ []) (3 ∷ 4 ∷ [])) (lot (9 ∷ []) (3 ∷ 4 ∷ []))))
    (readers (reader 9 3 1 ∷ reader 9 4 1 ∷ []) 0)
    -- "the first of 6, 7 or 8 met in pair order", "by key then id": the second pair, 7 with 4, is refused with 7; by id then key it would be
    -- 9 with 3, and 8.
    ∷ Case.refused (readers (reader 7 3 1 ∷ reader 7 4 65535 ∷ reader 9 4 1 ∷ []) 0) (wide give_four) 7
    -- The first pair is taken away with its record, then the second has nothing to take: the first is back as it was.
    ∷ Case.refused (readers (reader 7 3 1 ∷ reader 9 3 1 ∷ reader 9 4 1 ∷ []) 0) (wide withdraw_four) 6
    -- All four are taken away, then the first of the new half is added, and the second finds no room.
    ∷ Case.refused (readers (reader 7 3 2 ∷ reader 7 4 1 ∷ reader 9 3 2 ∷ reader 9 4 2 ∷ []) 0)
    (wide (several 2 3 four (lot (8 ∷ []) (3 ∷ 4 ∷ [])))) 8
    -- One pair says what a plain message says.
    ∷ Case.accepted nothing (wide (several 2 2 absent (lot (9 ∷ []) (1 ∷ [])))) (reads 1)
    -- M-107: "Wide messages and appointments carry markers".
    ∷ Case.accepted nothing (wide give_wide_x) (member 1 1 0)
    -- "a present half's list that is empty, too long or not strictly rising": no key, nine ids, the same id twice, ids that fall.
    ∷ Case.malformed nothing (wide (several 2 2 absent (lot [] (3 ∷ []))))
    ∷ Case.malformed nothing (wide (several 2 2 absent (lot (7 ∷ []) (1 ∷ 2 ∷ 3 ∷ 4 ∷ 5 ∷ 6 ∷ 7 ∷ 8 ∷ 9 ∷ []))))
    ∷ Case.malformed nothing (wide (several 2 2 absent (lot (7 ∷ []) (3 ∷ 3 ∷ []))))
    ∷ Case.malformed nothing (wide (several 2 2 absent (lot (7 ∷ []) (4 ∷ 3 ∷ []))))
    -- "An absent half has lengths and mask zero."
    ∷ Case.malformed nothing (wide (several 2 2 four four))
    ∷ Case.malformed nothing (wide (several 2 2 (record { keys = []; ids = []; mask = 2 }) four))
    -- "a wrong header or length": the 12 bytes of a plain message; a byte more; and an offset of 0 for a list of the absent half, which would begin at 16.
    ∷ Case.malformed nothing (wide give)
    ∷ Case.malformed nothing (wide (give_four ++ (0 ∷ [])))
    ∷ Case.malformed nothing
    (wide (2 ∷ 2 ∷ 0 ∷ 0 ∷ 1 ∷ 1 ∷ 0 ∷ 2 ∷ (twos (0 ∷ 16 ∷ 16 ∷ 18 ∷ []) ++ twos (7 ∷ 3 ∷ [])))) ∷ []

-- All of them, in 01's order, with what M-100, M-101, M-102, M-107, M-109 and M-112 add.
abbrev pub cases : List Case
cases = masks ++ (texts ++ (places ++ (chains ++ (examined ++ (appointments ++ (limits ++ (markers ++ (firms ++ (denials ++ (denied_everywhere ++ wides))))))))))
