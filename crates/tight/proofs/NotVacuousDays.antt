-- Each number that M-105 gives to a call is given for some input.
use Prim.Native.Nat.{ℕ}
use mathlib.Core.Path.{◌≡◌, refl}
use mathlib.Core.List.{List, []}
use mathlib.Core.Logic.{inl, inr}
use native.Mathlib.Omega.{arith}
use lib.ListN.{length}
use Rattle.index.specs.Letters.{may_have}
use Rattle.index.specs.Block.{number, Sized}
use Rattle.index.specs.Numbers.{Each}
use Rattle.index.specs.Calls.{block_needs}
use Rattle.index.proofs.laws.Answer.{yes_is, no_is}
use Rattle.index.proofs.laws.Firsts.{refuses}
use Rattle.calendar.specs.Dates.{date, leap_day, months, month_days, sum, years_days, day_number}
use Rattle.calendar.specs.Terms.{in_month, anniversary}
use Rattle.calendar.specs.Calls.{no_date, SpanOf}
use Rattle.calendar.proofs.laws.DateTest.{term_says}
use Rattle.appointments.specs.Appointment.{appointment_length, list_size, appointment_at, appointment_needs, day_needs}
use Rattle.appointments.specs.Asking.{Stands, NextChange}
use Rattle.appointments.specs.work.Listed.{sooner}
use Rattle.appointments.proofs.laws.Moving.{block_refuses}
use Rattle.appointments.proofs.laws.ListTest.{day_fails, day_fails_lem}
use Rattle.tight.specs.Blocks.{zeros}
use Rattle.tight.specs.Appointed.{appointment, ending, first_one, thursday, friday}
use Rattle.tight.specs.EachNumber.{DayGives, DateGives, TermGives, MoveGives, AskedGive, move_numbers, asked_numbers, date_numbers}
use Rattle.tight.proofs.Starred.{◌and◌}
use Rattle.tight.proofs.MoveTest.{next_change_test}
use Rattle.tight.proofs.Appointed.{dates_right, terms_right, story_right, corners_right, damaged_right}

pub day_numbers : Each DayGives date_numbers
day_numbers = (1970, 1, 1, 0, dates_right.0.0) and (1969, 12, 31, 0, dates_right.1.1.0) and tt

pub dated_numbers : Each DateGives date_numbers
dated_numbers = (0, date 1970 1 1, dates_right.0.1) and (157054, no_date, dates_right.1.1.1.1.0) and tt

-- The days of a term, and of what is none.
span : SpanOf (date 2024 2 29) 12 (0, (19782, 20147))
unfolding SpanOf anniversary in_month day_number years_days months month_days sum leap_day
span = inr (yes_is refl (term_says (date 2024 2 29) 12), (refl, (refl, refl)))

no_span : SpanOf (date 2024 1 1) 0 (12, (0, 0))
unfolding SpanOf anniversary in_month months month_days leap_day
no_span = inl ((λ t. no_is refl t (term_says (date 2024 1 1) 0)), refl)

pub term_numbers : Each TermGives date_numbers
term_numbers =
    (date 2024 2 29, 12, date 2025 2 28, _, terms_right.0, span)
    and (date 2024 1 1, 0, no_date, (0, 0), terms_right.1.1.1.1.1.1.1.0, no_span)
    and tt

-- ---- a move

-- A block of no bytes, and one whose header is all zero.
no_bytes : MoveGives 1
unfolding block_needs Sized
no_bytes = ([], [], 0, 0, [], block_refuses [] 0 0 [] (λ z. omega arith) (inl ((λ s. omega (arith, s.0)), refl)))

no_header : MoveGives 2
unfolding block_needs Sized number
no_header =
    (zeros 16, [], 0, 0, zeros 16, block_refuses [] 0 0 (zeros 16) (λ z. omega arith) (inr ((omega arith, omega arith), inl ((λ g. omega (arith, g.m_offset)), refl))))

pub move_numbers_lem : Each MoveGives move_numbers
move_numbers_lem =
    let steps = corners_right.1.1.1.1.1 in
    (_, _, _, _, _, story_right.0)
    and no_bytes
    and no_header
    and (_, _, _, _, _, damaged_right.0)
    and (_, _, _, _, _, damaged_right.1.1.1.0)
    and (_, _, _, _, _, damaged_right.1.1.1.1.0)
    and (_, _, _, _, _, damaged_right.1.1.1.1.1.1.0)
    and (_, _, _, _, _, steps.0)
    and (_, _, _, _, _, steps.1.1.0)
    and (_, _, _, _, _, steps.1.1.1.1.0)
    and tt

-- ---- what a host asks

-- An appointment that is refused with the number.
asked : (l : List ℕ) (day r : ℕ) → length l ≡ appointment_length → day_fails l day ≡ r → (r ≡ 0 → ⊥) → AskedGive r
unfolding Stands NextChange
asked l day r h e n =
    let a = rw e at (day_fails_lem l day) in
    (l, day, 0, 0, inr (h, refuses _ _ (day_needs l day) n a), refuses _ _ (day_needs l day) n a)

next_alone : NextChange first_one thursday (0, friday)
unfolding number may_have list_size appointment_at appointment_needs day_needs sooner anniversary in_month day_number years_days months month_days sum leap_day
next_alone = next_change_test first_one thursday refl friday refl

pub asked_numbers_lem : Each AskedGive asked_numbers
unfolding number may_have list_size appointment_at appointment_needs day_needs anniversary in_month months month_days leap_day
asked_numbers_lem =
    (first_one, thursday, 1, _, story_right.1.1.0, next_alone)
    and asked (ending 1 1 2 2 0 (date 2024 2 29) 12) 0 3 refl refl (λ z. omega arith)
    and asked (appointment 1024 2 2 0 (date 2024 2 29) 12) 0 4 refl refl (λ z. omega arith)
    and asked (appointment 1 2 0 0 (date 2024 2 29) 12) 0 5 refl refl (λ z. omega arith)
    and asked first_one 157054 12 refl refl (λ z. omega arith)
    and tt
