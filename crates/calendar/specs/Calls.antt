-- M-105: the calls of this crate, all refused with "12 for" "a date that is none, or a day, date, term or anniversary outside the range".
use Rattle.std.specs.Prelude.{ℕ, ◌≡◌, [], ◌∷◌, ◌↔◌, Result}
use Rattle.index.specs.declared.refusals.Refusal.{Refusal}
use Rattle.index.specs.Numbers.{First, Means}
use Rattle.calendar.specs.declared.Date.{Date}
use Rattle.calendar.specs.declared.Span.{Span}
use Rattle.calendar.specs.Dates.{date, IsDate, day_number, IsDay}
use Rattle.calendar.specs.Terms.{anniversary, IsTerm}

-- One test, of number 12.
abbrev pub Twelve : {O : Type 0} → Type 0 → O → (O → Type 0) → ℕ × O → Type 0
Twelve P none accepted o = First (λ n. (n, none)) ((12, P) ∷ []) (λ o. (o.0 ≡ 0) × accepted o.1) o

-- day_of: the number, and the day's number.
unfoldable pub DayOf : ℕ → ℕ → ℕ → ℕ × ℕ → Type 0
DayOf year month day o = Twelve (IsDate (date year month day)) 0 (λ n. n ≡ day_number (date year month day)) o

-- What a refusal gives for a date.
abbrev pub no_date : Date
no_date = date 0 0 0

-- date_of: the number, and the date.
unfoldable pub DateOf : ℕ → ℕ × Date → Type 0
DateOf n o = Twelve (IsDay n) no_date (λ d. IsDate d × (day_number d ≡ n)) o

-- anniversary: the number, and the date so many months after the first.
unfoldable pub AnniversaryOf : Date → ℕ → ℕ × Date → Type 0
AnniversaryOf first term o = Twelve (IsTerm first term) no_date (λ d. d ≡ anniversary first term) o

-- span_of: the number, "its first day", and the day of "the anniversary".
unfoldable pub SpanOf : Date → ℕ → ℕ × (ℕ × ℕ) → Type 0
SpanOf first term o =
    Twelve (IsTerm first term) (0, 0) (λ s. (s.0 ≡ day_number first) × (s.1 ≡ day_number (anniversary first term))) o

-- "Dates and day numbers agree each way": day_of gives the day for the date exactly when date_of gives the date for the day.
abbrev pub EachWay : Type 0
EachWay = (year month day n : ℕ) → DayOf year month day (0, n) ↔ DateOf n (0, date year month day)

-- ---- what the answers of the code stand for: the number, and its value, which are an outcome of the call

unfoldable pub DayAnswers : (ℕ × ℕ → Type 0) → Result ℕ Refusal → Type 0
DayAnswers Outcome r = Means (λ n. n) 0 Outcome r

unfoldable pub DateAnswers : (ℕ × Date → Type 0) → Result Date Refusal → Type 0
DateAnswers Outcome r = Means (λ d. d) no_date Outcome r

unfoldable pub SpanAnswers : (ℕ × (ℕ × ℕ) → Type 0) → Result Span Refusal → Type 0
SpanAnswers Outcome r = Means (λ s. (s.from, s.to)) (0, 0) Outcome r
