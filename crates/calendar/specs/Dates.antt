-- M-105: "dates from 1 January 1970 to 31 December 2399 by the Gregorian calendar, day 0 being the first".
use Rattle.std.specs.Prelude.{ℕ, suc, ◌+◌, ◌-◌, ◌%◌, ◌≤◌, cond, not, ◌&&◌, ◌||◌, List, [], ◌∷◌, eqb, get_or, take}
use Rattle.calendar.specs.declared.Date.{Date}

abbrev pub date : ℕ → ℕ → ℕ → Date
date year month day = record { year = year; month = month; day = day }

-- "1 January 1970" is in the first year, "31 December 2399" in the last.
abbrev pub first_year : ℕ
first_year = 1970

abbrev pub last_year : ℕ
last_year = 2399

-- "the Gregorian calendar": each fourth year has a leap day, but of the hundredth years only each fourth. 1 or 0.
unfoldable pub leap_day : ℕ → ℕ
leap_day year = cond (eqb (year % 4) 0 && (not (eqb (year % 100) 0) || eqb (year % 400) 0)) 1 0

-- The days of a year's months, January first.
unfoldable pub months : ℕ → List ℕ
months year = 31 ∷ (28 + leap_day year) ∷ 31 ∷ 30 ∷ 31 ∷ 30 ∷ 31 ∷ 31 ∷ 30 ∷ 31 ∷ 30 ∷ 31 ∷ []

-- The days of a month, 1 being January; what is no month has none.
unfoldable pub month_days : ℕ → ℕ → ℕ
month_days year month = get_or (0 ∷ months year) month 0

-- Neither "a date that is none" nor one "outside the range".
pub record IsDate (d : Date) : Type 0 where
  pub not_before : first_year ≤ d.year
  pub not_after : d.year ≤ last_year
  pub first_day : 1 ≤ d.day
  pub last_day : d.day ≤ month_days d.year d.month

unfoldable pub sum : List ℕ → ℕ
sum [] = 0
sum (n ∷ ns) = n + sum ns

-- The days of the n years from 1970 on.
unfoldable pub years_days : ℕ → ℕ
years_days ℕ.zero = 0
years_days (suc n) = years_days n + sum (months (first_year + n))

-- "day 0 being the first": the days before the date, those of whole years, then of whole months, then of its month.
unfoldable pub day_number : Date → ℕ
day_number d = years_days (d.year - first_year) + sum (take (d.month - 1) (months d.year)) + (d.day - 1)

-- No day "outside the range": it is at most that of 31 December 2399, which is day 157,053 (laws/Dates).
unfoldable pub IsDay : ℕ → Type 0
IsDay n = n ≤ day_number (date last_year 12 31)
