-- M-105: the whole table of specs/Appointed, by tests that compute.
use Prim.Native.Nat.{ℕ}
use mathlib.Core.Path.{◌≡◌, refl, sym, subst}
use mathlib.Core.Bool.{true, false, cond}
use mathlib.Core.List.{List, [], ◌∷◌, ◌++◌}
use mathlib.Core.Logic.{◌⊎◌, inl, inr}
use native.Mathlib.Omega.{arith}
use lib.Dec.{leb}
use lib.ListN.{length}
use Rattle.index.specs.Letters.{may_have}
use Rattle.index.specs.Numbers.{Each}
use Rattle.index.specs.Block.{number, count_at, count_from, count, room}
use Rattle.index.specs.Message.{kind_number, changes, moves, taken, added, own_count}
use Rattle.index.proofs.laws.Answer.{yes_is, no_is}
use Rattle.index.proofs.laws.message.MessageTest.{none_left, through_test, last_of}
use Rattle.calendar.specs.Dates.{date, leap_day, months, month_days, sum, years_days, day_number}
use Rattle.calendar.specs.Terms.{in_month, anniversary, between, stands}
use Rattle.calendar.specs.Calls.{DayOf, DateOf, AnniversaryOf}
use Rattle.calendar.proofs.laws.DateTest.{date_test, date_says, term_test, term_says, day_says}
use Rattle.calendar.proofs.laws.EachWay.{each_way}
use Rattle.appointments.specs.Appointment.{appointment_length, list_size, appointment_at, appointments_from, appointments, appointment_needs, day_needs, stands_on, only_on, those, standing_only}
use Rattle.appointments.specs.Moves.{Moved}
use Rattle.appointments.specs.work.Listed.{sooner}
use Rattle.appointments.proofs.laws.Moving.{steps}
use Rattle.appointments.proofs.laws.ListTest.{day_fails, days_fail, next_test}
use Rattle.tight.specs.Appointed.{Case, Shows, dates, terms, member, without, story, marked, corners, damaged, appointed}
use Rattle.tight.proofs.BlockTest.{block_test}
use Rattle.tight.proofs.RefusedTest.{stop_test}
use Rattle.tight.proofs.RightsTest.{rights_test, rights_test_lem}
use Rattle.tight.proofs.Starred.{◌and◌}
use Rattle.tight.proofs.MoveTest.{moved_test, stopped_test, damaged_test, stands_test, next_change_test}

-- The test of a case. A move goes through the blocks ds, to its end or until it is refused; or its list or a day is refused.
abbrev Stopped : List ℕ → List ℕ → ℕ → ℕ → ℕ → Type 0
Stopped b l old new n = (ds : List (List ℕ)) × (days_fail l old new ≡ 0) × (stop_test (steps l old new) b ds n ≡ true)

abbrev Damaged : List ℕ → ℕ → ℕ → ℕ → Type 0
Damaged l old new n = (days_fail l old new ≡ n) × (n ≡ 0 → ⊥)

abbrev Test : Case → Type 0
Test (Case.day y m d n) = (date_test (date y m d) ≡ true) × (day_number (date y m d) ≡ n)
Test (Case.no_such_date y m d) = date_test (date y m d) ≡ false
Test (Case.no_day n) = leb n 157053 ≡ false
Test (Case.later first term d) = (term_test first term ≡ true) × (anniversary first term ≡ d)
Test (Case.no_term first term) = term_test first term ≡ false
Test (Case.stands l n r) =
    (day_fails l n ≡ 0) × (length l ≡ appointment_length) × (cond (stands_on n (appointment_at l 0)) 1 0 ≡ r)
Test (Case.next l n m) = (day_fails l n ≡ 0) × (next_test l n ≡ m)
Test (Case.moved b l old new b') =
    (ds : List (List ℕ)) × (block_test b ≡ true) × (days_fail l old new ≡ 0) × (through_test none_left (steps l old new) b ds ≡ true) × (last_of b ds ≡ b')
Test (Case.refused b l old new n) = (block_test b ≡ true) × (Stopped b l old new n ⊎ Damaged l old new n)
Test (Case.holds b u o mask) = rights_test b u mask mask o ≡ true

-- Each test means what its case says.
day_test : (y m d n : ℕ) → date_test (date y m d) ≡ true → day_number (date y m d) ≡ n → DayOf y m d (0, n)
unfolding DayOf
day_test y m d n e f = inr (yes_is e (date_says (date y m d)), (refl, sym f))

refused_test : (b l : List ℕ) (old new n : ℕ) → block_test b ≡ true → Stopped b l old new n ⊎ Damaged l old new n → Moved b l old new (n, b)
refused_test b l old new n g (inl s) = stopped_test b l old new g s.1 s.0 n s.2
refused_test b l old new n g (inr s) = damaged_test b l old new g n s.0 s.1

means : (c : Case) → Test c → Shows c
unfolding DayOf DateOf AnniversaryOf
means (Case.day y m d n) e =
    let p = day_test y m d n e.0 e.1 in
    (p, (each_way y m d n).0 p)
means (Case.no_such_date y m d) e = inl ((λ i. no_is e i (date_says (date y m d))), refl)
means (Case.no_day n) e = inl ((λ i. no_is e i (day_says n)), refl)
means (Case.later first term d) e = inr (yes_is e.0 (term_says first term), (refl, sym e.1))
means (Case.no_term first term) e = inl ((λ t. no_is e t (term_says first term)), refl)
means (Case.stands l n r) e = stands_test l n e.0 r e.1 e.2
means (Case.next l n m) e = next_change_test l n e.0 m e.1
means (Case.moved b l old new b') e =
    subst (λ (d : List ℕ). Moved b l old new (0, d)) e.4 (moved_test b l old new e.1 e.2 e.0 e.3)
means (Case.refused b l old new n) e = refused_test b l old new n e.0 e.1
means (Case.holds b u o mask) e = λ p is. (_, _, rights_test_lem b u mask o _ _ (e, refl, refl) p is)

all_mean : (cs : List Case) → Each Test cs → Each Shows cs
all_mean [] e = tt
all_mean (c ∷ cs) e = (means c e.0, all_mean cs e.1)

-- ---- the rows

pub dates_right : Each Shows dates
unfolding day_number years_days months month_days sum leap_day
dates_right =
    all_mean dates
    ((refl, refl)
    and (refl, refl)
    and refl
    and refl
    and refl
    and (refl, refl)
    and (refl, refl)
    and refl
    and (refl, refl)
    and refl
    and refl
    and refl
    and refl
    and refl
    and tt)

pub terms_right : Each Shows terms
unfolding anniversary in_month month_days months leap_day
terms_right =
    all_mean terms
    ((refl, refl)
    and (refl, refl)
    and (refl, refl)
    and (refl, refl)
    and (refl, refl)
    and (refl, refl)
    and (refl, refl)
    and refl
    and refl
    and refl
    and tt)

pub story_right : Each Shows story
unfolding number count_at count_from count room may_have kind_number changes moves taken added own_count list_size appointment_at appointments_from appointments appointment_needs day_needs stands_on only_on those standing_only sooner stands between anniversary in_month day_number years_days months month_days sum leap_day
story_right =
    all_mean story
    ((member 1 ∷ member 2 ∷ [], refl, refl, refl, refl)
    and refl
    and (refl, refl, refl)
    and (refl, refl)
    and (refl, refl, refl)
    and (refl, refl, refl)
    and (member 1 ∷ [], refl, refl, refl, refl)
    and refl
    and (refl, refl)
    and (without ∷ [], refl, refl, refl, refl)
    and refl
    and (refl, refl)
    and (member 1 ∷ member 2 ∷ [], refl, refl, refl, refl)
    and tt)

pub corners_right : Each Shows corners
unfolding number count_at count_from count room may_have kind_number changes moves taken added own_count list_size appointment_at appointments_from appointments appointment_needs day_needs stands_on only_on those standing_only stands between anniversary in_month day_number years_days months month_days sum leap_day
corners_right =
    all_mean corners
    (([], refl, refl, refl, refl)
    and (without ∷ marked ∷ [], refl, refl, refl, refl)
    and ([], refl, refl, refl, refl)
    and ([], refl, refl, refl, refl)
    and (without ∷ [], refl, refl, refl, refl)
    and (refl, inl ([], refl, refl))
    and (refl, inl (without ∷ [], refl, refl))
    and (refl, inl ([], refl, refl))
    and (refl, inl (member 65535 ∷ [], refl, refl))
    and (refl, inl (member 1 ∷ [], refl, refl))
    and tt)

pub damaged_right : Each Shows damaged
unfolding number count_at may_have list_size appointment_at appointment_needs day_needs anniversary in_month months month_days leap_day
damaged_right =
    all_mean damaged
    ((refl, inr (refl, λ z. omega arith))
    and (refl, inr (refl, λ z. omega arith))
    and (refl, inr (refl, λ z. omega arith))
    and (refl, inr (refl, λ z. omega arith))
    and (refl, inr (refl, λ z. omega arith))
    and (refl, inr (refl, λ z. omega arith))
    and (refl, inr (refl, λ z. omega arith))
    and (refl, inr (refl, λ z. omega arith))
    and (refl, inr (refl, λ z. omega arith))
    and (refl, inr (refl, λ z. omega arith))
    and (refl, inr (refl, λ z. omega arith))
    and (refl, inr (refl, λ z. omega arith))
    and (refl, inr (refl, λ z. omega arith))
    and (refl, inr (refl, λ z. omega arith))
    and (refl, inr (refl, λ z. omega arith))
    and (refl, inr (refl, λ z. omega arith))
    and tt)

after : (cs ds : List Case) → Each Shows cs → Each Shows ds → Each Shows (cs ++ ds)
after [] ds p q = q
after (c ∷ cs) ds p q = (p.0, after cs ds p.1 q)

-- The whole table.
pub appointed_right : Each Shows appointed
appointed_right =
    after dates (terms ++ (story ++ (corners ++ damaged))) dates_right
    (after terms (story ++ (corners ++ damaged)) terms_right
    (after story (corners ++ damaged) story_right (after corners damaged corners_right damaged_right)))
