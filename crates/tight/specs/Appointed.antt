-- M-105: its dates, the mill's own story and the corners of a move, as one table. A case says what it says by the promises of the calls.
use Rattle.std.specs.Prelude.{ℕ, suc, List, [], ◌∷◌, ◌++◌}
use Rattle.index.specs.Letters.{all_rights}
use Rattle.calendar.specs.declared.Date.{Date}
use Rattle.calendar.specs.Dates.{date}
use Rattle.calendar.specs.Calls.{no_date, DayOf, DateOf, AnniversaryOf}
use Rattle.appointments.specs.Moves.{Moved}
use Rattle.appointments.specs.Asking.{Stands, NextChange}
use Rattle.rights.specs.Profiles.{IsProfile}
use Rattle.rights.specs.Questions.{Full}
use Rattle.tight.specs.Blocks.{two, Row, once, block, zeros}

pub data Case : Type 0 where
  -- the date has this day, and the day this date
  day : (year month day n : ℕ) → Case
  -- it is no date of the range
  no_such_date : (year month day : ℕ) → Case
  -- it is no day of the range
  no_day : (n : ℕ) → Case
  -- so many months after the first date is this one
  later : (first : Date) (term : ℕ) (then : Date) → Case
  -- the first date and the months are no term
  no_term : (first : Date) (term : ℕ) → Case
  -- the appointment stands on the day, 1, or not, 0
  stands : (appointment : List ℕ) (day answer : ℕ) → Case
  -- the next day on which another set of the list stands; 0 for none
  next : (list : List ℕ) (day n : ℕ) → Case
  -- going from the old day to the new is accepted, and the block is then this
  moved : (block list : List ℕ) (old new : ℕ) (after : List ℕ) → Case
  -- it is refused with the number, and the block is as it was
  refused : (block list : List ℕ) (old new number : ℕ) → Case
  -- on the block, the user holds these rights on the object, in each profile
  holds : (block : List ℕ) (user object mask : ℕ) → Case

abbrev pub Shows : Case → Type 0
Shows (Case.day y m d n) = DayOf y m d (0, n) × DateOf n (0, date y m d)
Shows (Case.no_such_date y m d) = DayOf y m d (12, 0)
Shows (Case.no_day n) = DateOf n (12, no_date)
Shows (Case.later first term d) = AnniversaryOf first term (0, d)
Shows (Case.no_term first term) = AnniversaryOf first term (12, no_date)
Shows (Case.stands l n answer) = Stands l n (0, answer)
Shows (Case.next l n m) = NextChange l n (0, m)
Shows (Case.moved b l old new b') = Moved b l old new (0, b')
Shows (Case.refused b l old new n) = Moved b l old new (n, b)
Shows (Case.holds b u o mask) = (p : ℕ) → IsProfile p → (i : ℕ) × (j : ℕ) × Full b u o all_rights p (0, mask, i, j)

-- The bytes of an appointment: key, id, mask, marker, the first date, the term, and the last byte, which is to be zero.
abbrev pub ending : ℕ → ℕ → ℕ → ℕ → ℕ → Date → ℕ → List ℕ
ending last x y mask marker first term =
    two x ++ (two y ++ (mask ∷ marker ∷ (two first.year ++ (first.month ∷ first.day ∷ term ∷ last ∷ []))))

abbrev pub appointment : ℕ → ℕ → ℕ → ℕ → Date → ℕ → List ℕ
appointment x y mask marker first term = ending 0 x y mask marker first term

-- ---- dates

abbrev pub dates : List Case
dates =
    -- "1 January 1970 to 31 December 2399", "day 0 being the first"
    Case.day 1970 1 1 0
    ∷ Case.day 2399 12 31 157053
    ∷ Case.no_such_date 1969 12 31
    ∷ Case.no_such_date 2400 1 1
    ∷ Case.no_day 157054
    -- "29 February 2024 (day 19,782)", "28 February 2025 (day 20,147)"
    ∷ Case.day 2024 2 29 19782
    ∷ Case.day 2025 2 28 20147
    -- leap years
    ∷ Case.no_such_date 2023 2 29
    ∷ Case.day 2000 2 29 11016
    ∷ Case.no_such_date 2100 2 29
    -- no month, no day of the month
    ∷ Case.no_such_date 2024 0 1
    ∷ Case.no_such_date 2024 13 1
    ∷ Case.no_such_date 2024 4 31
    ∷ Case.no_such_date 2024 4 0 ∷ []

abbrev pub terms : List Case
terms =
    -- "from 29 February 2024 (day 19,782), twelve months later is 28 February 2025 (day 20,147)"
    Case.later (date 2024 2 29) 12 (date 2025 2 28)
    ∷ Case.later (date 2024 2 29) 48 (date 2028 2 29)
    -- "the same day of the month, or on the month's last day if it has no such day"
    ∷ Case.later (date 2025 1 31) 1 (date 2025 2 28)
    ∷ Case.later (date 2024 1 31) 1 (date 2024 2 29)
    ∷ Case.later (date 2024 8 31) 1 (date 2024 9 30)
    ∷ Case.later (date 2024 11 30) 3 (date 2025 2 28)
    ∷ Case.later (date 2389 12 31) 120 (date 2399 12 31)
    -- "a term of 1 to 120 months", no "anniversary outside the range"
    ∷ Case.no_term (date 2024 1 1) 0
    ∷ Case.no_term (date 2024 1 1) 121
    ∷ Case.no_term (date 2399 12 1) 1 ∷ []

-- ---- the mill's own story

-- The planner is 1, her group 2, the order 9. A P record lets the group read it. She is in the group by two appointments: the first is twelve
-- months from 29 February 2024 on, and its last day is Thursday 27 February 2025, day 20,146; the second, twelve months from 1 June 2024 on,
-- still stands.
abbrev pub first_one : List ℕ
first_one = appointment 1 2 2 0 (date 2024 2 29) 12

abbrev pub second_one : List ℕ
second_one = appointment 1 2 2 0 (date 2024 6 1) 12

abbrev pub both : List ℕ
both = first_one ++ second_one

abbrev pub thursday : ℕ
thursday = 20146

abbrev pub friday : ℕ
friday = 20147

-- 1 June 2025, when the second is over too.
abbrev pub summer : ℕ
summer = 20240

-- The block in which she is in the group n times over.
abbrev pub order : Row
order = once 9 2 2

abbrev pub member : ℕ → List ℕ
member n = block (record { key = 1; id = 2; counts = 0 ∷ n ∷ zeros 8 } ∷ []) (order ∷ []) [] 0

abbrev pub without : List ℕ
without = block [] (order ∷ []) [] 1

abbrev pub story : List Case
story =
    -- from a day with none standing
    Case.moved without both 0 thursday (member 2)
    ∷ Case.holds (member 2) 1 9 2
    ∷ Case.stands first_one thursday 1
    ∷ Case.next both thursday friday
    -- overnight the first appointment ends: one is taken, and the right stands
    ∷ Case.stands first_one friday 0
    ∷ Case.stands second_one friday 1
    ∷ Case.moved (member 2) both thursday friday (member 1)
    ∷ Case.holds (member 1) 1 9 2
    ∷ Case.next both friday summer
    -- in summer the second ends too, and the right with it
    ∷ Case.moved (member 1) both friday summer without
    ∷ Case.holds without 1 9 0
    ∷ Case.next both summer 0
    -- "later or earlier": and back
    ∷ Case.moved without both summer thursday (member 2) ∷ []

-- ---- the corners of a move

-- Another membership, of 3 in group 4 with R and the marker X, from Friday on.
abbrev pub another : List ℕ
another = appointment 3 4 2 1 (date 2025 2 28) 12

abbrev pub marked : List ℕ
marked = block (record { key = 3; id = 4; counts = 0 ∷ 1 ∷ zeros 6 ++ (1 ∷ 0 ∷ []) } ∷ []) (order ∷ []) [] 0

abbrev pub corners : List Case
corners =
    -- "those standing on the old day only": the second stands on both days and is left alone, whether the block counts it or not
    Case.moved without second_one thursday friday without
    -- "in list order", all that is taken before all that is added: the one record makes room for the other
    ∷ Case.moved (member 1) (another ++ first_one) thursday friday marked
    -- from a day to itself nothing, and over no list
    ∷ Case.moved without both thursday thursday without
    ∷ Case.moved without [] 0 thursday without
    -- "later or earlier": from Friday back to the first day of all what stood on Friday is taken
    ∷ Case.moved (member 1) both friday 0 without
    -- "then the first of 6, 7, 8 met, with nothing applied": nothing to take; one taken, nothing for the other; a full
    -- count; one added and then a full count; one taken and then no room
    ∷ Case.refused without both thursday friday 6
    ∷ Case.refused (member 1) both thursday summer 6
    ∷ Case.refused (member 65535) both 0 friday 7
    ∷ Case.refused (member 65534) both 0 thursday 7
    ∷ Case.refused (member 2) (first_one ++ another) thursday friday 8 ∷ []

-- The list or a day is refused, on a good block: 3, 4, 5, 12.
abbrev pub copies : ℕ → List ℕ
copies ℕ.zero = []
copies (suc n) = first_one ++ copies n

abbrev pub damaged : List Case
damaged =
    -- a length, a marker byte and a last byte that are none
    Case.refused without (1 ∷ []) 0 thursday 3
    ∷ Case.refused without (appointment 1 2 2 3 (date 2024 2 29) 12) 0 thursday 3
    ∷ Case.refused without (ending 1 1 2 2 0 (date 2024 2 29) 12) 0 thursday 3
    -- "a name above 1023"; "mask 0, or above 15"
    ∷ Case.refused without (appointment 1024 2 2 0 (date 2024 2 29) 12) 0 thursday 4
    ∷ Case.refused without (appointment 1 2 0 0 (date 2024 2 29) 12) 0 thursday 5
    ∷ Case.refused without (appointment 1 2 16 0 (date 2024 2 29) 12) 0 thursday 5
    -- "12 for a 257th appointment, a date that is none, or a day, date, term or anniversary outside the range"
    ∷ Case.refused without (copies 257) 0 thursday 12
    ∷ Case.refused without (appointment 1 2 2 0 (date 2023 2 29) 12) 0 thursday 12
    ∷ Case.refused without (appointment 1 2 2 0 (date 2024 2 29) 121) 0 thursday 12
    ∷ Case.refused without (appointment 1 2 2 0 (date 2399 12 1) 1) 0 thursday 12
    ∷ Case.refused without both 157054 thursday 12
    ∷ Case.refused without both thursday 157054 12
    -- each over the whole list before the next: 3 before 4, 4 before 5 and 12, 5 before 12
    ∷ Case.refused without (appointment 1024 2 2 0 (date 2024 2 29) 12 ++ ending 1 1 2 2 0 (date 2024 2 29) 12) 0 thursday 3
    ∷ Case.refused without (appointment 1 2 0 0 (date 2023 2 29) 12 ++ appointment 1 1024 2 0 (date 2024 2 29) 12) 0 thursday 4
    ∷ Case.refused without (copies 257 ++ appointment 1 1024 2 0 (date 2024 2 29) 12) 0 thursday 4
    ∷ Case.refused without (appointment 1 2 2 0 (date 2023 2 29) 12 ++ appointment 1 2 0 0 (date 2024 2 29) 12) 0 thursday 5 ∷ []

abbrev pub appointed : List Case
appointed = dates ++ (terms ++ (story ++ (corners ++ damaged)))
