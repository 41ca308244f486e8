-- 01, "Rights and letters", and M-107 for the markers. The letters are numbered in the order of the table: M 0, R 1, U 2, P 3, m 4, r 5,
-- u 6, p 7; the markers follow, X 8, N 9. The four rights are the four capital letters.
use Rattle.std.specs.Prelude.{ℕ, ◌/◌, ◌%◌, ◌^◌, ◌<◌, ◌≡◌, Bool, ◌||◌, List, [], ◌∷◌, ◌↔◌, ltb, eqb}
use Rattle.index.specs.declared.Kind.{Kind}
use Rattle.index.specs.declared.Kind.TheVariants.{Membership, Permission, Filter}

-- How many letters there are, the two markers among them. M-107: "ten counts".
abbrev pub letter_count : ℕ
letter_count = 10

-- How many rights: the letters below this one are the capital letters.
abbrev pub right_count : ℕ
right_count = 4

-- The mask of all four.
abbrev pub all_rights : ℕ
all_rights = 15

-- M-107: "the markers X and N". They come "after the letters": the letters below X are the eight of 01's table.
abbrev pub marker_x : ℕ
marker_x = 8

abbrev pub marker_n : ℕ
marker_n = 9

-- "letter": the byte of each. M-107: "In text X and N follow the letters".
--        M    R    U    P    m     r     u     p     X    N
unfoldable pub letters : List ℕ
letters = 77 ∷ 82 ∷ 85 ∷ 80 ∷ 109 ∷ 114 ∷ 117 ∷ 112 ∷ 88 ∷ 78 ∷ []

-- "mask": 1, 2, 4, 8, 16, 32, 64, 128, which is 2 ^ k for letter k; so X is 256 in a mask, and N 512. Letter k is in the mask.
abbrev pub In : ℕ → ℕ → Type 0
In k mask = mask / 2 ^ k % 2 ≡ 1

-- "M and F records have zero in the four small-letter counts"; M-107, of X and N: "P and F records have neither". A record of the kind
-- may have letter k.
unfoldable pub may_have : Kind → ℕ → Bool
may_have Membership k = ltb k right_count || eqb k marker_x || eqb k marker_n
may_have Permission k = ltb k marker_x
may_have Filter k = ltb k right_count

-- r is the mask of the rights that P holds of.
abbrev pub Mask : ℕ → (ℕ → Type 0) → Type 0
Mask r P = (r < 2 ^ right_count) × ((k : ℕ) → k < right_count → In k r ↔ P k)
