-- M-105: the term of an appointment, and the days on which it stands.
use Rattle.std.specs.Prelude.{ℕ, ◌+◌, ◌-◌, ◌*◌, ◌/◌, ◌%◌, ◌≤◌, min, Bool, ◌&&◌, leb, ltb}
use Rattle.calendar.specs.declared.Date.{Date}
use Rattle.calendar.specs.Dates.{date, month_days, IsDate, day_number}

-- "the same day of the month, or on the month's last day if it has no such day": that day in month n, where the months of all years are
-- counted on and 12 * year is January.
unfoldable pub in_month : ℕ → ℕ → Date
in_month n day = date (n / 12) (n % 12 + 1) (min day (month_days (n / 12) (n % 12 + 1)))

-- "the anniversary": so many months after the first date.
unfoldable pub anniversary : Date → ℕ → Date
anniversary first term = in_month (12 * first.year + (first.month - 1) + term) first.day

-- "a first date and a term of 1 to 120 months", and no "date, term or anniversary outside the range".
pub record IsTerm (first : Date) (term : ℕ) : Type 0 where
  pub begins : IsDate first
  pub least : 1 ≤ term
  pub most : term ≤ 120
  pub ends : IsDate (anniversary first term)

-- From the first of two days on, and before the other.
unfoldable pub between : ℕ → ℕ → ℕ → Bool
between from to day = leb from day && ltb day to

-- "It stands from its first day up to the day before the anniversary".
unfoldable pub stands : Date → ℕ → ℕ → Bool
stands first term day = between (day_number first) (day_number (anniversary first term)) day
