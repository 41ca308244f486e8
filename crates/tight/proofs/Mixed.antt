-- M-100: a history of wide and plain messages mixed, written out.
use Prim.Native.Nat.{ℕ}
use mathlib.Core.Path.{◌≡◌, refl, ap}
use mathlib.Core.List.{List, [], ◌∷◌, Permᴰ}
use mathlib.Core.Logic.{inr}
use lib.ListN.{length}
use native.Mathlib.Omega.{arith}
use Rattle.index.specs.declared.Kind.TheVariants.{Permission}
use Rattle.index.specs.Letters.{may_have}
use Rattle.index.specs.Block.{number, Sized, count_at, count_from, count, room}
use Rattle.index.specs.Message.{kind_of, kind_number, kind_in, flags, present, markers, mask_with, half_at, halves, Half, changes, moves, taken, added, own_count}
use Rattle.index.specs.Wide.{list_length, mask_in, list_offset, names_from, names, list_place, pairs, wide_halves, Sent, previous_of}
use Rattle.index.specs.Wide.Sent.{plain, wide}
use Rattle.index.specs.Calls.{Makes, make_needs, Sends}
use Rattle.index.specs.History.{Accepted, Labelled, Statement, left, others, after, History, moves_of, tally}
use Rattle.index.specs.History.Accepted.{next}
use Rattle.index.specs.History.History.{accepted}
use Rattle.index.proofs.laws.block.GoodTest.{good_test_lem}
use Rattle.index.proofs.laws.message.MessageTest.{sent_test_lem}
use Rattle.tight.specs.Blocks.{giving, withdrawing, absent, several}
use Rattle.tight.specs.Examples.{lot, give_four, narrow_four, reader, readers}
use Rattle.tight.proofs.Starred.{wides_right}
use Rattle.tight.proofs.Demand3.{first_half, second_half}

-- ---- message by message

-- A wide statement gives R on 7 and on 9 to 3 and to 4; a plain one gives R on 7 to 3 too; then the wide one is left on 9 alone.
abbrev give_one : List ℕ
give_one = giving 2 7 3 2

-- Without a record; with all four; with one of them twice; and with that one, and those on 9.
abbrev empty : List ℕ
empty = readers [] 4

abbrev all_four : List ℕ
all_four = readers (reader 7 3 1 ∷ reader 7 4 1 ∷ reader 9 3 1 ∷ reader 9 4 1 ∷ []) 0

abbrev one_twice : List ℕ
one_twice = readers (reader 7 3 2 ∷ reader 7 4 1 ∷ reader 9 3 1 ∷ reader 9 4 1 ∷ []) 0

abbrev narrowed : List ℕ
narrowed = readers (reader 7 3 1 ∷ reader 9 3 1 ∷ reader 9 4 1 ∷ []) 1

four_given : Sends empty (wide give_four) (0, all_four)
four_given = wides_right.0

one_given : Sends all_four (plain give_one) (0, one_twice)
one_given = wides_right.1.0

-- "All of the previous half is taken away, then all of the new added": those on 9 go, and come again.
four_narrowed : Sends one_twice (wide narrow_four) (0, narrowed)
unfolding number count_at count_from count room may_have kind_of kind_number kind_in flags present markers mask_with changes moves taken added own_count list_length mask_in list_offset names_from names list_place pairs wide_halves
four_narrowed =
    sent_test_lem one_twice (wide narrow_four)
    (all_four
    ∷ narrowed
    ∷ readers (reader 7 3 1 ∷ reader 9 4 1 ∷ []) 2
    ∷ readers (reader 7 3 1 ∷ []) 3
    ∷ readers (reader 7 3 1 ∷ reader 9 3 1 ∷ []) 2
    ∷ narrowed ∷ [])
    refl

-- ---- "Demand 3 reads over lists of wide and plain messages mixed"

pub in_turn : Accepted empty (wide give_four ∷ plain give_one ∷ wide narrow_four ∷ []) narrowed
in_turn = next four_given (next one_given (next four_narrowed Accepted.nothing))

-- The plain message first.
one_first : Sends empty (plain give_one) (0, readers (reader 7 3 1 ∷ []) 3)
unfolding number count_at count_from count room may_have kind_of kind_number kind_in flags present markers mask_with half_at halves changes moves taken added own_count
one_first = sent_test_lem empty (plain give_one) (readers (reader 7 3 1 ∷ []) 3 ∷ []) refl

four_then : Sends (readers (reader 7 3 1 ∷ []) 3) (wide give_four) (0, one_twice)
unfolding number count_at count_from count room may_have kind_of kind_number kind_in flags present markers mask_with changes moves taken added own_count list_length mask_in list_offset names_from names list_place pairs wide_halves
four_then =
    sent_test_lem (readers (reader 7 3 1 ∷ []) 3) (wide give_four)
    (readers (reader 7 3 2 ∷ []) 3
    ∷ readers (reader 7 3 2 ∷ reader 7 4 1 ∷ []) 2
    ∷ readers (reader 7 3 2 ∷ reader 7 4 1 ∷ reader 9 3 1 ∷ []) 1
    ∷ one_twice ∷ [])
    refl

pub out_of_turn : Accepted empty (plain give_one ∷ wide give_four ∷ wide narrow_four ∷ []) narrowed
out_of_turn = next one_first (next four_then (next four_narrowed Accepted.nothing))

-- In every order in which the three messages are accepted, the block ends so, byte for byte.
pub any_turn : (ms : List Sent) (b : List ℕ) → Permᴰ ms (wide give_four ∷ plain give_one ∷ wide narrow_four ∷ []) → Accepted empty ms b
    → b ≡ narrowed
unfolding number count_at may_have
any_turn ms b p h = first_half empty b narrowed ms _ (good_test_lem empty refl) p h in_turn

-- As a history: the wide messages speak for statement 1, the plain one for statement 2.
abbrev of : ℕ → Sent → Labelled
of l m = record { label = l; sent = m }

abbrev story : List Labelled
story = of 1 (wide give_four) ∷ of 2 (plain give_one) ∷ of 1 (wide narrow_four) ∷ []

-- What stands after the first two messages, and after the third.
abbrev both_stand : List Statement
both_stand = after (of 2 (plain give_one)) (after (of 1 (wide give_four)) [])

abbrev in_the_end : List Statement
in_the_end = after (of 1 (wide narrow_four)) both_stand

pub mixed : History empty [] story narrowed in_the_end
unfolding kind_in flags present markers mask_with half_at halves kind_of number list_length mask_in list_offset names_from names pairs wide_halves left others after
mixed = accepted four_given refl (accepted one_given refl (accepted four_narrowed refl History.nothing))

made : Makes empty (0, empty)
unfolding Makes make_needs Sized number count_at may_have
made = inr (omega arith, (refl, good_test_lem empty refl, refl, refl))

-- "a wide statement counts once in each of its pairs": R on 7 counts for 3 by the plain statement and no more for 4, on 9 by the wide one.
pub mixed_counts : (count narrowed Permission 7 3 1 ≡ 1) × (count narrowed Permission 7 4 1 ≡ 0) × (count narrowed Permission 9 3 1 ≡ 1) × (count narrowed Permission 9 4 1 ≡ 1)
unfolding kind_in flags present markers mask_with half_at halves kind_of kind_number number list_length mask_in list_offset names_from names pairs wide_halves left others after moves moves_of tally
mixed_counts =
    let counts = second_half empty empty narrowed story in_the_end made mixed Permission in
    (counts 7 3 1 (omega arith), counts 7 4 1 (omega arith), counts 9 3 1 (omega arith), counts 9 4 1 (omega arith))

-- ---- what has to be quoted

-- One pair is not all that the wide statement left: a plain withdrawal of it is none of its history.
pub not_in_part : previous_of (plain (withdrawing 2 7 3 2)) ≡ left 1 both_stand → ⊥
unfolding kind_in flags present markers mask_with half_at halves kind_of number list_length mask_in list_offset names_from names pairs wide_halves left others after
not_in_part e = omega (arith, ap (λ (hs : List Half). length hs) e)

-- The form does not matter: a wide message of the one pair quotes what the plain statement left.
pub either_form : previous_of (wide (several 2 1 (lot (7 ∷ []) (3 ∷ [])) absent)) ≡ left 2 in_the_end
unfolding kind_in flags present markers mask_with half_at halves kind_of number list_length mask_in list_offset names_from names pairs wide_halves left others after
either_form = refl
