-- The appointments of a list from a number on.
use Prim.Native.Nat.{ℕ, suc, ◌+◌, ◌-◌, ◌<◌, ◌≤◌}
use mathlib.Core.Path.{◌≡◌, refl}
use mathlib.Core.List.{List, [], ◌∷◌}
use native.Mathlib.Omega.{arith}
use lib.ListN.{length}
use Rattle.appointments.specs.Appointment.{Appointment, list_size, appointment_at, appointments_from, appointments}

abbrev pub rest : List ℕ → ℕ → List Appointment
rest l i = appointments_from l i (list_size l - i)

pub rest_all : (l : List ℕ) → rest l 0 ≡ appointments l
unfolding appointments
rest_all l =
    let e : list_size l - 0 ≡ list_size l = omega arith in
    rw e

pub rest_more : (l : List ℕ) (i : ℕ) → i < list_size l → rest l i ≡ appointment_at l i ∷ rest l (i + 1)
unfolding appointments_from
rest_more l i h =
    let e : list_size l - i ≡ suc (list_size l - (i + 1)) = omega arith in
    rw e

pub rest_none : (l : List ℕ) (i : ℕ) → list_size l ≤ i → rest l i ≡ []
unfolding appointments_from
rest_none l i h =
    let e : list_size l - i ≡ 0 = omega arith in
    rw e

from_length : (l : List ℕ) (i n : ℕ) → length (appointments_from l i n) ≡ n
unfolding appointments_from
from_length l i ℕ.zero = refl
from_length l i (suc n) = omega (arith, from_length l (i + 1) n)

pub all_length : (l : List ℕ) → length (appointments l) ≡ list_size l
unfolding appointments
all_length l = from_length l 0 (list_size l)
