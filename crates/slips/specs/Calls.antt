-- M-103, "A slip that says why": the check of a slip and the finder, with the numbers they give. All quotations are from there, but where another
-- request is named.
use Rattle.std.specs.Prelude.{ℕ, ◌^◌, ◌<◌, ◌≤◌, ◌≡◌, Bool, List, [], ◌∷◌, ◌++◌, ◌⊎◌, length, drop, Option, Some, None, Result, Ok, Err}
use Rattle.index.specs.Letters.{right_count}
use Rattle.index.specs.declared.refusals.Refusal.{Refusal}
use Rattle.index.specs.Numbers.{First, Each, number}
use Rattle.index.specs.Block.{IsName}
use Rattle.rights.specs.Held.{Holds, chain_limit}
use Rattle.rights.specs.Questions.{YesWhen, AnswerMeans}
use Rattle.rights.specs.Through.{through_needs}
use Rattle.slips.specs.declared.Slip.{Slip as Counts}
use Rattle.slips.specs.Slip.{most_names, Slip, Shortest}

-- "exactly one right is named": the mask is that of right k, and P holds for it.
abbrev pub ForRight : ℕ → (ℕ → Type 0) → Type 0
ForRight mask P = (k : ℕ) × (k < right_count) × (mask ≡ 2 ^ k) × P k

abbrev pub OneRight : ℕ → Type 0
OneRight mask = ForRight mask (λ k. Unit {0})

-- ---- the check

-- A chain that may be checked: not one that "has 0 or more than 33 names".
abbrev pub IsChain : List ℕ → Type 0
IsChain names = (1 ≤ length names) × (length names ≤ most_names)

-- "Refusals: 1, 2, 4 (a slip's names too), then 5 unless exactly one right is named, then" "11 if a checked chain has 0 or more than 33 names." The
-- first three are of the block, the user and the object.
unfoldable pub check_needs : List ℕ → ℕ → ℕ → ℕ → List ℕ → List ℕ → List (ℕ × Type 0)
check_needs b u o right us os =
    through_needs b u o ++ ((4, Each IsName us × Each IsName os) ∷ (5, OneRight right) ∷ (11, IsChain us × IsChain os) ∷ [])

-- An accepted check "says yes exactly when its chains and grant, with the filters, meet the rules".
abbrev pub Judged : List ℕ → ℕ → ℕ → ℕ → List ℕ → List ℕ → (ℕ × ℕ) → Type 0
Judged b u o right us os a = YesWhen (ForRight right (λ k. Slip b u o k us os)) a

-- check_slip, which "takes a slip from anybody": the number, and 1 for yes or 0 for no.
unfoldable pub ChecksSlip : List ℕ → ℕ → ℕ → ℕ → List ℕ → List ℕ → (ℕ × ℕ) → Type 0
ChecksSlip b u o right us os a = First (λ n. (n, 0)) (check_needs b u o right us os) (Judged b u o right us os) a

-- ---- the finder

-- "then 10 if a list lent to the finder has fewer than 33 places", whether there is a slip or not.
unfoldable pub find_needs : List ℕ → ℕ → ℕ → ℕ → List ℕ → List ℕ → List (ℕ × Type 0)
find_needs b u o right us os =
    through_needs b u o ++ ((5, OneRight right) ∷ (10, (most_names ≤ length us) × (most_names ≤ length os)) ∷ [])

-- What the finder gives: the number, how many names are on the user's chain and on the object's, and the two lists then.
abbrev pub Outcome : Type 0
Outcome = ℕ × ℕ × ℕ × List ℕ × List ℕ

-- A slip is found: its names stand at the front of the two lists, and it leaves "the places past each chain's end". Where several have as few
-- names, it may be any of them: of all that the library promises, this alone is left open.
abbrev pub Found : List ℕ → ℕ → ℕ → ℕ → List ℕ → List ℕ → Outcome → Type 0
Found b u o right us os a =
    (xs : List ℕ) × (ys : List ℕ) × ForRight right (λ k. Shortest b u o k xs ys)
    × (a ≡ (0, length xs, length ys, xs ++ drop (length xs) us, ys ++ drop (length ys) os))

-- "none" "leaves both lent lists unchanged", and the right is not held. M-112: "slips belong to the ordinary one", the ordinary profile, in which
-- held is `Holds`.
abbrev pub NoneFound : List ℕ → ℕ → ℕ → ℕ → List ℕ → List ℕ → Outcome → Type 0
NoneFound b u o right us os a = (ForRight right (Holds chain_limit b u o) → ⊥) × (a ≡ (0, 0, 0, us, os))

-- find_slip. "A slip is found exactly when the right is held" (law `found_held`).
unfoldable pub FindsSlip : List ℕ → ℕ → ℕ → ℕ → List ℕ → List ℕ → Outcome → Type 0
FindsSlip b u o right us os a =
    First (λ n. (n, 0, 0, us, os)) (find_needs b u o right us os) (λ a. Found b u o right us os a ⊎ NoneFound b u o right us os a) a

-- ---- what each case of an answer stands for: the number, and its values, which are an outcome of the call

abbrev pub SlipMeans : (ℕ → ℕ → Type 0) → Option Counts → Type 0
SlipMeans Gives (Some slip) = (0 < slip.users) × Gives slip.users slip.objects
SlipMeans Gives None = Gives 0 0

abbrev pub SoughtMeans : (ℕ → ℕ → ℕ → Type 0) → Result (Option Counts) Refusal → Type 0
SoughtMeans Gives (Ok slip) = SlipMeans (Gives 0) slip
SoughtMeans Gives (Err e) = Gives (number e) 0 0

unfoldable pub FindAnswers : List ℕ → ℕ → ℕ → ℕ → List ℕ → List ℕ → Result (Option Counts) Refusal → List ℕ → List ℕ → Type 0
FindAnswers b u o right us os r us' os' = SoughtMeans (λ n x y. FindsSlip b u o right us os (n, x, y, us', os')) r

unfoldable pub CheckAnswers : List ℕ → ℕ → ℕ → ℕ → List ℕ → List ℕ → Result Bool Refusal → Type 0
CheckAnswers b u o right us os r = AnswerMeans (ChecksSlip b u o right us os) r
