-- The mill's own case: two appointments give the right to read on 9 to 1, then one ends, then the other; and one with a marker.
use Prim.Native.Nat.{ℕ}
use mathlib.Core.Path.{◌≡◌, refl, sym, ap}
use mathlib.Core.List.{List, [], ◌∷◌, Permᴰ}
use mathlib.Core.Logic.{inr}
use lib.ListN.{length}
use native.Mathlib.Omega.{arith}
use Rattle.index.specs.declared.Kind.TheVariants.{Membership, Permission}
use Rattle.index.specs.Letters.{marker_x, marker_n, may_have}
use Rattle.index.specs.Block.{number, Sized, count_at, count}
use Rattle.index.specs.Message.{kind_of, kind_number, kind_in, flags, present, markers, mask_with, half_at, halves, previous, Half, moves}
use Rattle.index.specs.Wide.{Sent}
use Rattle.index.specs.Wide.Sent.{plain}
use Rattle.index.specs.Calls.{Makes, make_needs, Message}
use Rattle.index.specs.History.{Accepted, Labelled, Statement, left, others, after, History, moves_of, tally}
use Rattle.index.specs.History.Accepted.{next}
use Rattle.index.specs.History.History.{accepted}
use Rattle.index.proofs.laws.block.GoodTest.{good_test_lem}
use Rattle.rights.specs.Held.{chain_limit}
use Rattle.rights.specs.Profiles.{HoldsIn, IsProfile, profile_of}
use Rattle.rights.specs.Questions.{Limited, Full, Short}
use Rattle.tight.specs.Blocks.{giving, withdrawing, nothing, reads, give, withdraw}
use Rattle.tight.specs.Examples.{InEach, member, give_x, from_xto_n}
use Rattle.tight.specs.Programs.{Program, Meets, run}
use Rattle.rights.proofs.laws.questions.OneAnswer.{accepted_full}
use Rattle.rights.proofs.laws.questions.ShortAgrees.{short_yes, short_no}
use Rattle.tight.proofs.Programs.{runs, answers}
use Rattle.tight.proofs.Starred.{appointments_right, markers_right}
use Rattle.tight.proofs.Demand3.{first_half, second_half}

-- "It makes an empty index block": what make leaves of any block of that length.
pub made : (b : List ℕ) → length b ≡ length nothing → Makes b (0, nothing)
unfolding Makes make_needs Sized number count_at may_have
made b e = inr (omega arith, (refl, good_test_lem nothing refl, sym e, refl))

-- A message, with the label of the appointment that it speaks for.
abbrev pub by : ℕ → List ℕ → Labelled
by l m = record { label = l; sent = plain m }

-- ---- message by message

pub first_given : Message nothing give (0, reads 1)
first_given = appointments_right.0

pub second_given : Message (reads 1) give (0, reads 2)
second_given = appointments_right.1.0

one_withdrawn : Message (reads 2) withdraw (0, reads 1)
one_withdrawn = appointments_right.1.1.0

pub held_by_one : InEach (λ p. Full (reads 1) 1 9 15 p (0, 2, 0, 0))
held_by_one = appointments_right.1.1.1.0

both_withdrawn : Message (reads 1) withdraw (0, nothing)
both_withdrawn = appointments_right.1.1.1.1.0

pub held_by_none : InEach (λ p. Full nothing 1 9 15 p (0, 0, 0, 0))
held_by_none = appointments_right.1.1.1.1.1.0

-- ---- the right stands while one appointment does

one_ended : Accepted nothing (plain give ∷ plain give ∷ plain withdraw ∷ []) (reads 1)
one_ended = next first_given (next second_given (next one_withdrawn Accepted.nothing))

both_ended : Accepted nothing (plain give ∷ plain give ∷ plain withdraw ∷ plain withdraw ∷ []) nothing
both_ended = next first_given (next second_given (next one_withdrawn (next both_withdrawn Accepted.nothing)))

-- "a right she had never lost": user 1 holds right 1, to read, on 9, in each profile.
pub never_lost : (p : ℕ) → IsProfile p → HoldsIn (profile_of p) chain_limit (reads 1) 1 9 1
unfolding Limited
never_lost p is = (((accepted_full (reads 1) 1 9 15 p 2 0 0 (held_by_one p is)).1.1.1 1 (omega arith)).0 refl).0

-- The short question, on the same block: yes to reading, no to all four rights.
pub yes_to_one : InEach (λ p. Short (reads 1) 1 9 2 p (0, 1))
yes_to_one p is = short_yes (reads 1) 1 9 15 p 2 0 0 (held_by_one p is) 2 (omega arith) (omega arith) (λ k h i. i)

pub no_to_all : InEach (λ p. Short (reads 1) 1 9 15 p (0, 0))
no_to_all p is =
    short_no (reads 1) 1 9 15 p 2 0 0 (held_by_one p is) 15 (omega arith) (omega arith) 0 (omega arith) refl refl (λ i. omega arith)

-- Whatever program meets the promises answers so.
pub still_answered : (p : Program) → Meets p
    → InEach (λ profile. p.rights (run p nothing (plain give ∷ plain give ∷ plain withdraw ∷ [])) 1 9 15 profile ≡ (0, 2, 0, 0))
still_answered p meets profile is =
    rw (runs p meets (plain give ∷ plain give ∷ plain withdraw ∷ []) one_ended) (answers p meets (held_by_one profile is))

-- In every order in which the four messages are accepted, the block is empty again.
pub both_gone : (ms : List Sent) (b : List ℕ) → Permᴰ ms (plain give ∷ plain give ∷ plain withdraw ∷ plain withdraw ∷ []) → Accepted nothing ms b
    → b ≡ nothing
unfolding number count_at may_have
both_gone ms b p h = first_half nothing b nothing ms _ (good_test_lem nothing refl) p h both_ended

-- ---- the same as histories, with a label for each appointment

-- The two appointments are given, one ends, and then the other.
abbrev Ended : ℕ → ℕ → Type 0
Ended i j = (s : List Statement) × History nothing [] (by 1 give ∷ by 2 give ∷ by i withdraw ∷ by j withdraw ∷ []) nothing s

-- What stands once both are given.
abbrev both_stand : List Statement
both_stand = after (by 2 give) (after (by 1 give) [])

ended : (i j : ℕ) → previous withdraw ≡ left i both_stand → previous withdraw ≡ left j (after (by i withdraw) both_stand) → Ended i j
unfolding kind_in flags present markers mask_with half_at halves kind_of number left others after
ended i j p q =
    (_, accepted first_given refl (accepted second_given refl (accepted one_withdrawn p (accepted both_withdrawn q History.nothing))))

-- Whichever ends first, the block is empty again.
pub either_first : Ended 1 2 × Ended 2 1
unfolding kind_in flags present markers mask_with half_at halves kind_of number left others after
either_first = (ended 1 2 refl refl, ended 2 1 refl refl)

-- Demand 3 by the numbers: the count is 1 when one stands, and 2 when both do.
pub count_of_one : count (reads 1) Permission 9 1 1 ≡ 1
unfolding kind_in flags present markers mask_with half_at halves kind_of kind_number number left others after moves moves_of tally
count_of_one =
    second_half nothing nothing (reads 1) (by 1 give ∷ []) _ (made nothing refl) (accepted first_given refl History.nothing)
    Permission 9 1 1 (omega arith)

pub count_of_two : count (reads 2) Permission 9 1 1 ≡ 2
unfolding kind_in flags present markers mask_with half_at halves kind_of kind_number number left others after moves moves_of tally
count_of_two =
    second_half nothing nothing (reads 2) (by 1 give ∷ by 2 give ∷ []) _ (made nothing refl)
    (accepted first_given refl (accepted second_given refl History.nothing)) Permission 9 1 1 (omega arith)

-- ---- M-107: an appointment with a marker, "part of what a statement leaves and has to quote"

pub x_given : Message nothing give_x (0, member 1 1 0)
x_given = markers_right.0

-- Two appointments to one group, the first with X, which becomes N.
abbrev marked_story : List Labelled
marked_story = by 1 give_x ∷ by 2 (giving 1 1 10 3) ∷ by 1 from_xto_n ∷ []

-- "demand 3 counts it as a letter": X counts 0 then, N 1, and R 2.
pub marked_counts : (count (member 2 0 1) Membership 1 10 marker_x ≡ 0) × (count (member 2 0 1) Membership 1 10 marker_n ≡ 1) × (count (member 2 0 1) Membership 1 10 1 ≡ 2)
unfolding kind_in flags present markers mask_with half_at halves kind_of kind_number number left others after moves moves_of tally
marked_counts =
    let counts = second_half nothing nothing (member 2 0 1) marked_story _ (made nothing refl)
    (accepted x_given refl (accepted markers_right.1.0 refl (accepted markers_right.1.1.0 refl History.nothing))) Membership 1 10 in
    (counts marker_x (omega arith), counts marker_n (omega arith), counts 1 (omega arith))

-- Without its marker the first appointment is not quoted: a withdrawal with the letters alone is none of its history.
pub not_quoted : previous (withdrawing 1 1 10 3) ≡ left 1 (after (by 1 give_x) []) → ⊥
unfolding kind_in flags present markers mask_with half_at halves kind_of number left others after
not_quoted e = omega (arith, ap masked e)
  where
    masked : List Half → ℕ
    masked [] = 0
    masked (h ∷ hs) = h.mask
