-- On the last day of the range none stands, whatever the list.
use Prim.Native.Nat.{ℕ, suc, ◌+◌, ◌<◌}
use mathlib.Core.Path.{◌≡◌, refl}
use mathlib.Core.Bool.{Bool, false}
use mathlib.Core.List.{List, []}
use native.Mathlib.Omega.{arith}
use Rattle.calendar.specs.Dates.{day_number}
use Rattle.calendar.specs.Terms.{anniversary}
use Rattle.calendar.proofs.laws.Dates.{last_day, in_range, day_most}
use Rattle.appointments.specs.Appointment.{Appointment, list_size, appointment_at, appointments_from, appointments, InRange, stands_on, those, standing}
use Rattle.appointments.specs.Days.{Starts, LastDayFree}
use Rattle.appointments.proofs.laws.NextDay.{over}

those_none : (test : Appointment → Bool) (l : List ℕ) (i n : ℕ) → ((j : ℕ) → j < i + n → test (appointment_at l j) ≡ false)
    → those test (appointments_from l i n) ≡ []
unfolding those appointments_from
those_none test l i ℕ.zero none = refl
those_none test l i (suc n) none = rw (none i (omega arith), those_none test l (i + 1) n (λ j h. none j (omega arith)))

none_stands : (l : List ℕ) → InRange l → standing l 157053 ≡ []
unfolding standing appointments
none_stands l r =
    those_none (stands_on 157053) l 0 (list_size l)
    (λ j h.
    let a = appointment_at l j in
    let t = r.terms j (omega arith) in
    let end = anniversary a.first a.term in
    over a t 157053 (day_most (day_number end) (in_range end t.ends)))

pub last_day_free : LastDayFree
unfolding Starts
last_day_free l r = rw last_day (none_stands l r)
