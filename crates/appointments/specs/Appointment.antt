-- M-105, "Appointments with a first and last day": the list of appointments, which is the list of its bytes.
use Rattle.std.specs.Prelude.{ℕ, suc, ◌+◌, ◌*◌, ◌/◌, ◌%◌, ◌<◌, ◌≤◌, ◌≡◌, Bool, true, cond, not, ◌&&◌, List, [], ◌∷◌, ◌++◌, length, get_or}
use Rattle.index.specs.declared.Kind.TheVariants.{Membership}
use Rattle.index.specs.Block.{number}
use Rattle.index.specs.Message.{Half, marker_mask, Marked, Named, Masked}
use Rattle.calendar.specs.declared.Date.{Date}
use Rattle.calendar.specs.Dates.{date, IsDay}
use Rattle.calendar.specs.Terms.{IsTerm, stands}

-- "An appointment is a membership with a first date and a term of 1 to 120 months".
pub record Appointment : Type 0 where
  pub membership : Half
  pub first : Date
  pub term : ℕ

-- ---- its bytes

-- 02 gives the list no layout; this one is ours. An appointment has 12 bytes: key (2), id (2), mask (1), marker (1: 0 none, 1 X, 2 N), the
-- first date's year (2), month (1) and day (1), term in months (1), zero (1).
abbrev pub appointment_length : ℕ
appointment_length = 12

-- "up to 256 of them"
abbrev pub most_appointments : ℕ
most_appointments = 256

-- How many there are, each whole.
unfoldable pub list_size : List ℕ → ℕ
list_size l = length l / appointment_length

-- Byte j of appointment i.
abbrev pub byte_of : List ℕ → ℕ → ℕ → ℕ
byte_of l i j = get_or l (appointment_length * i + j) 0

-- Bytes j and j + 1 of it as one number.
abbrev pub number_of : List ℕ → ℕ → ℕ → ℕ
number_of l i j = number l (appointment_length * i + j)

-- Appointment i. M-107: "Wide messages and appointments carry markers": as of a half, the mask is the mask byte, and 256 for X, 512 for N.
unfoldable pub appointment_at : List ℕ → ℕ → Appointment
appointment_at l i = record {
  membership = record {
    kind = Membership;
    key = number_of l i 0;
    id = number_of l i 2;
    mask = byte_of l i 4 + marker_mask * byte_of l i 5;
  };
  first = date (number_of l i 6) (byte_of l i 8) (byte_of l i 9);
  term = byte_of l i 10;
}

-- The n from number i on, and so all of them, "in list order".
unfoldable pub appointments_from : List ℕ → ℕ → ℕ → List Appointment
appointments_from l i ℕ.zero = []
appointments_from l i (suc n) = appointment_at l i ∷ appointments_from l (i + 1) n

unfoldable pub appointments : List ℕ → List Appointment
appointments l = appointments_from l 0 (list_size l)

-- ---- what its numbers require

-- P holds of each appointment in the list.
abbrev pub EachIn : List ℕ → (Appointment → Type 0) → Type 0
EachIn l P = (i : ℕ) → i < list_size l → P (appointment_at l i)

-- What 3 requires, which is ours too: whole appointments, in each the marker of a present half, 0, 1 or 2, and the last byte zero.
pub record ListFormed (l : List ℕ) : Type 0 where
  pub whole : length l % appointment_length ≡ 0
  pub marked : (i : ℕ) → i < list_size l → Marked (byte_of l i 5) Membership true
  pub zero : (i : ℕ) → i < list_size l → byte_of l i 11 ≡ 0

-- What 12 requires: no "257th appointment", no "date that is none", no "date, term or anniversary outside the range".
pub record InRange (l : List ℕ) : Type 0 where
  pub few : list_size l ≤ most_appointments
  pub terms : EachIn l (λ a. IsTerm a.first a.term)

-- Each over the whole list, those that do not stand among them: 3; then as of a message 4, "a name above 1023", and 5, "mask 0, or above 15";
-- then 12.
unfoldable pub appointment_needs : List ℕ → List (ℕ × Type 0)
appointment_needs l =
    (3, ListFormed l)
    ∷ (4, EachIn l (λ a. Named a.membership))
    ∷ (5, EachIn l (λ a. Masked a.membership))
    ∷ (12, InRange l) ∷ []

-- And then 12 for a "day" "outside the range".
unfoldable pub day_needs : List ℕ → ℕ → List (ℕ × Type 0)
day_needs l day = appointment_needs l ++ ((12, IsDay day) ∷ [])

-- ---- on a day

-- It "stands" on the day.
unfoldable pub stands_on : ℕ → Appointment → Bool
stands_on day a = stands a.first a.term day

-- It stands on this day, and not on the other.
unfoldable pub only_on : ℕ → ℕ → Appointment → Bool
only_on day other a = stands_on day a && not (stands_on other a)

-- The memberships of those that a test picks, "in list order".
unfoldable pub those : (Appointment → Bool) → List Appointment → List Half
those test [] = []
those test (a ∷ rest) = cond (test a) (a.membership ∷ those test rest) (those test rest)

-- "the appointments of the old day"
unfoldable pub standing : List ℕ → ℕ → List Half
standing l day = those (stands_on day) (appointments l)

-- "those standing on the old day only"
unfoldable pub standing_only : List ℕ → ℕ → ℕ → List Half
standing_only l day other = those (only_on day other) (appointments l)
