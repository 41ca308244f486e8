-- What a host asks besides, of which 02 has nothing: whether an appointment stands on a day, and when another set of a list does.
use Rattle.std.specs.Prelude.{ℕ, ◌<◌, ◌≤◌, ◌≡◌, Bool, true, cond, List, ◌∷◌, ◌⊎◌, length, Option, Some, None, Result, Ok, Err}
use Rattle.index.specs.declared.refusals.Refusal.{Refusal}
use Rattle.index.specs.Numbers.{First, number, Means, yes_no}
use Rattle.calendar.specs.Dates.{IsDay}
use Rattle.appointments.specs.Appointment.{Appointment, appointment_length, list_size, appointment_at, day_needs, stands_on, only_on}

-- stands: the number, and 1 for yes, 0 for no. The list is one appointment.
unfoldable pub Stands : List ℕ → ℕ → ℕ × ℕ → Type 0
Stands l day o =
    First (λ n. (n, 0)) ((3, length l ≡ appointment_length) ∷ day_needs l day) (λ o. o ≡ (0, cond (stands_on day (appointment_at l 0)) 1 0)) o

-- On day n the appointment stands and on the day not, or the other way round.
abbrev pub Differs : Appointment → ℕ → ℕ → Type 0
Differs a day n = (only_on day n a ≡ true) ⊎ (only_on n day a ≡ true)

-- On day n another set of the list stands than on the day: some appointment stands on one of the two only.
abbrev pub Another : List ℕ → ℕ → ℕ → Type 0
Another l day n = (i : ℕ) × (i < list_size l) × Differs (appointment_at l i) day n

-- n is the first day after `day` that P holds of; 0 if there is none in the range.
pub record IsFirst (P : ℕ → Type 0) (day n : ℕ) : Type 0 where
  pub there : (n ≡ 0) ⊎ ((day < n) × IsDay n × P n)
  pub first : (m : ℕ) → day < m → IsDay m → P m → (0 < n) × (n ≤ m)

-- The next day on which another set of the list stands.
abbrev pub IsNext : List ℕ → ℕ → ℕ → Type 0
IsNext l day n = IsFirst (Another l day) day n

-- next_change: the number, and that day.
unfoldable pub NextChange : List ℕ → ℕ → ℕ × ℕ → Type 0
NextChange l day o = First (λ n. (n, 0)) (day_needs l day) (λ o. (o.0 ≡ 0) × IsNext l day o.1) o

-- ---- what the answers of the code stand for: the number, and its value, which are an outcome of the call

unfoldable pub StandsAnswers : List ℕ → ℕ → Result Bool Refusal → Type 0
StandsAnswers l day r = Means yes_no 0 (Stands l day) r

-- The next day, which is not 0, or 0 for none.
unfoldable pub NextAnswers : List ℕ → ℕ → Result (Option ℕ) Refusal → Type 0
NextAnswers l day (Ok (Some n)) = (0 < n) × NextChange l day (0, n)
NextAnswers l day (Ok None) = NextChange l day (0, 0)
NextAnswers l day (Err e) = NextChange l day (number e, 0)
