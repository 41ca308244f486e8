-- M-105: the mill's own story as one history, messages and moves mixed: two appointments, the first ends on a Thursday, the right stands.
use Prim.Native.Nat.{ℕ}
use mathlib.Core.Path.{◌≡◌, refl}
use mathlib.Core.List.{List, [], ◌∷◌}
use mathlib.Core.Logic.{inr}
use native.Mathlib.Omega.{arith}
use Rattle.index.specs.declared.Kind.TheVariants.{Membership}
use Rattle.index.specs.Letters.{may_have}
use Rattle.index.specs.Block.{number, Sized, count_at, count_from, count, room}
use Rattle.index.specs.Message.{kind_of, kind_number, kind_in, flags, present, markers, mask_with, half_at, halves, changes, moves, taken, added, own_count}
use Rattle.index.specs.Wide.Sent.{plain}
use Rattle.index.specs.Calls.{Makes, make_needs, Sends}
use Rattle.index.specs.History.{Labelled, Statement, left, others, after, History, moves_of, tally}
use Rattle.index.proofs.laws.block.GoodTest.{good_test_lem}
use Rattle.index.proofs.laws.message.MessageTest.{sent_test_lem}
use Rattle.calendar.specs.Dates.{leap_day, months, month_days, sum, years_days, day_number}
use Rattle.calendar.specs.Terms.{in_month, anniversary, between, stands}
use Rattle.appointments.specs.Appointment.{list_size, appointment_at, appointments_from, appointments, stands_on, those, standing}
use Rattle.appointments.specs.Moves.{Moved}
use Rattle.appointments.specs.Days.{Last, Starts, standing_then, Mixed}
use Rattle.appointments.specs.Days.Event.{message, move}
use Rattle.appointments.proofs.laws.SecondHalf.{second_half}
use Rattle.appointments.proofs.laws.NeverSix.{never_six}
use Rattle.tight.specs.Examples.{InEach}
use Rattle.tight.specs.Blocks.{block, giving}
use Rattle.tight.specs.Appointed.{both, thursday, friday, summer, member, without}
use Rattle.tight.specs.DayPrograms.{DayProgram, DayMeets}
use Rattle.tight.proofs.Programs.{answers}
use Rattle.tight.proofs.Appointed.{story_right}
use Rattle.tight.proofs.FiveEmptyDays.{moves_to}

-- The block that make leaves, with room for two records.
abbrev empty : List ℕ
empty = block [] [] [] 2

made : Makes empty (0, empty)
unfolding Makes make_needs Sized number count_at may_have
made = inr (omega arith, (refl, good_test_lem empty refl, refl, refl))

-- Statement 7: the group may read the order.
abbrev granting : Labelled
granting = record { label = 7; sent = plain (giving 2 9 2 2) }

granted : Sends empty (plain (giving 2 9 2 2)) (0, without)
unfolding number count_at count_from count room may_have kind_of kind_number kind_in flags present markers mask_with half_at halves changes moves taken added own_count
granted = sent_test_lem empty (plain (giving 2 9 2 2)) (without ∷ []) refl

abbrev stated : List Statement
stated = after granting []

-- On day 0 none stands.
none_at_first : Starts both Last.none 0
unfolding Starts number list_size appointment_at appointments_from appointments stands_on those standing stands between anniversary in_month day_number years_days months month_days sum leap_day
none_at_first = refl

-- The grant, then the days: to Thursday, overnight to Friday, and to summer.
pub until_friday : Mixed both empty [] Last.none (message granting ∷ move 0 thursday ∷ move thursday friday ∷ []) (member 1) stated (Last.ended friday)
unfolding Starts left others after kind_in flags present markers mask_with half_at halves kind_of number
until_friday =
    Mixed.told (History.accepted granted refl History.nothing)
    (Mixed.moved story_right.0 none_at_first (Mixed.moved story_right.1.1.1.1.1.1.0 refl Mixed.nothing))

pub until_summer : Mixed both empty [] Last.none (message granting ∷ move 0 thursday ∷ move thursday friday ∷ move friday summer ∷ []) without stated (Last.ended summer)
unfolding Starts left others after kind_in flags present markers mask_with half_at halves kind_of number
until_summer =
    Mixed.told (History.accepted granted refl History.nothing)
    (Mixed.moved story_right.0 none_at_first
    (Mixed.moved story_right.1.1.1.1.1.1.0 refl
    (Mixed.moved story_right.1.1.1.1.1.1.1.1.1.0 refl Mixed.nothing)))

-- On Friday one appointment stands, so she is in the group once; in summer none, and she is not.
pub one_left : count (member 1) Membership 1 2 1 ≡ 1
unfolding standing_then number list_size appointment_at appointments_from appointments stands_on those standing stands between anniversary in_month day_number years_days months month_days sum leap_day kind_in flags present markers mask_with half_at halves kind_of kind_number left others after moves moves_of tally
one_left = second_half both empty empty (member 1) _ stated (Last.ended friday) made until_friday Membership 1 2 1 (omega arith)

pub none_left_lem : count without Membership 1 2 1 ≡ 0
unfolding standing_then number list_size appointment_at appointments_from appointments stands_on those standing stands between anniversary in_month day_number years_days months month_days sum leap_day kind_in flags present markers mask_with half_at halves kind_of kind_number left others after moves moves_of tally
none_left_lem = second_half both empty empty without _ stated (Last.ended summer) made until_summer Membership 1 2 1 (omega arith)

-- "a right she had never lost": whatever program meets the promises moves overnight to a block on which she may read the order, in
-- each profile.
pub never_lost : (p : DayProgram) → DayMeets p
    → InEach (λ profile. (p.base.rights (p.move (member 2) both thursday friday).1 1 9 15 profile).1 ≡ 2)
never_lost p meets profile is =
    rw (
      moves_to p meets story_right.1.1.1.1.1.1.0,
      answers p.base meets.base (story_right.1.1.1.1.1.1.1.0 profile is).2,
    )

-- From Friday on no move is refused with 6, whatever the day.
pub no_six : (new : ℕ) (b : List ℕ) → Moved (member 1) both friday new (6, b) → ⊥
unfolding Starts
no_six new b = never_six both empty empty (member 1) b _ stated (Last.ended friday) friday new made until_friday refl
