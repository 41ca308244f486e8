-- What a list and a day say that passed their tests, and the answers then.
use Prim.Native.Nat.{ℕ, ◌<◌, ◌≤◌}
use mathlib.Core.Path.{◌≡◌, refl}
use mathlib.Core.Bool.{cond, ◌&&◌}
use lib.Dec.{leb, ltb}
use mathlib.Core.List.{List}
use mathlib.Core.Logic.{◌⊎◌, inl, inr}
use native.Mathlib.Omega.{arith}
use Rattle.std.specs.Prelude.{Option, Some, None, Ok}
use Rattle.index.specs.Numbers.{Answers}
use Rattle.index.proofs.laws.Firsts.{All, passed, first_passed, first_all}
use Rattle.calendar.specs.Dates.{IsDay, day_number}
use Rattle.calendar.specs.Terms.{anniversary, between, stands}
use Rattle.appointments.specs.declared.list.Entry.{Entry}
use Rattle.appointments.specs.work.Listed.{appointment_of, FirstDay}
use Rattle.calendar.proofs.laws.Dates.{day_most}
use Rattle.appointments.specs.Appointment.{appointment_at, InRange, appointment_needs, day_needs, stands_on}
use Rattle.appointments.specs.Asking.{Another, IsNext, NextChange, NextAnswers}

module _ (l : List ℕ) (day : ℕ) where
  -- An accepted answer, whether an appointment stands.
  abbrev pub answer : ℕ × ℕ → Type 0
  answer o = o ≡ (0, cond (stands_on day (appointment_at l 0)) 1 0)

  -- And when to move next.
  abbrev pub next_day : ℕ × ℕ → Type 0
  next_day o = (o.0 ≡ 0) × IsNext l day o.1

  module _ {r : ℕ} (z : r ≡ 0) (a : Answers (day_needs l day) r) where
    pub day_passed : All (day_needs l day)
    unfolding day_needs appointment_needs
    day_passed = passed (day_needs l day) (omega arith) z a

    pub day_range : InRange l
    unfolding day_needs appointment_needs
    day_range = day_passed.1.1.1.0

  -- The next change that was found, or that there is none.
  pub next_found : All (day_needs l day) → (next : Option ℕ) → FirstDay (Another l day) day next → NextAnswers l day (Ok next)
  unfolding NextAnswers NextChange
  next_found all (Some n) f = (f.0, first_all (λ n. (n, 0)) next_day (0, n) (day_needs l day) all (refl, f.1))
  next_found all None f = first_all (λ n. (n, 0)) next_day (0, 0) (day_needs l day) all (refl, f)

  -- The day of a next change is in the range.
  pub next_bound : (n : ℕ) → NextChange l day (0, n) → n ≤ 157053
  unfolding NextChange day_needs appointment_needs
  next_bound n p = go (first_passed (λ n. (n, 0)) next_day (0, n) (λ o. o.0) (λ n. refl) (day_needs l day) (omega arith) refl p).1.1.there
    where
      go : (n ≡ 0) ⊎ ((day < n) × IsDay n × Another l day n) → n ≤ 157053
      go (inl z) = omega arith
      go (inr r) = day_most n r.1

-- On the days from the first up to the anniversary an appointment stands.
pub on_days : (e : Entry) (day : ℕ) {from to : ℕ} → from ≡ day_number e.first → to ≡ day_number (anniversary e.first e.term)
    → leb from day && ltb day to ≡ stands_on day (appointment_of e)
unfolding stands_on stands between appointment_of
on_days e day p q = rw (p, q)
