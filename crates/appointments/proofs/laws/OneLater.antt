-- Of one appointment that stands, the next change is its anniversary.
use Prim.Native.Nat.{ℕ}
use mathlib.Core.Path.{◌≡◌, refl, sym, ap, subst}
use mathlib.Core.Bool.{Bool, true, false, cond}
use mathlib.Core.List.{List, ◌∷◌}
use mathlib.Core.Logic.{⊎_elim, inl, inr}
use native.Mathlib.Omega.{arith}
use borrow.Author.Tests.{leb-true, ltb-true}
use lib.Dec.{leb, ltb}
use lib.ListN.{length}
use Rattle.index.proofs.laws.Firsts.{All, first_passed, first_all}
use Rattle.index.proofs.laws.Tests.{both}
use Rattle.calendar.specs.Dates.{day_number}
use Rattle.calendar.specs.Terms.{anniversary, between, stands}
use Rattle.appointments.specs.Appointment.{Appointment, appointment_length, list_size, appointment_at, appointment_needs, day_needs, stands_on}
use Rattle.appointments.specs.Asking.{Stands, Differs, IsFirst, NextChange}
use Rattle.appointments.proofs.laws.NextDay.{first_to}
use Rattle.appointments.proofs.laws.Asked.{answer, next_day}

-- The first day of what holds just when something else does.
first_same : {P Q : ℕ → Type 0} (day n : ℕ) → ((m : ℕ) → P m → Q m) → ((m : ℕ) → Q m → P m) → IsFirst P day n → IsFirst Q day n
first_same day n to from p =
    record {
      there = ⊎_elim inl (λ t. inr (t.0, t.1, to n t.2)) p.there;
      first = λ m l i q. p.first m l i (from m q);
    }

yes_one : (t : Bool) → ◌≡◌ {A = ℕ} (cond t 1 0) 1 → t ≡ true
yes_one true e = refl
yes_one false e = absurd (omega arith)

module _ (l : List ℕ) (day : ℕ) where
  abbrev only : Appointment
  only = appointment_at l 0

  -- An accepted answer: one appointment, which passed the tests.
  passed : Stands l day (0, 1) → (length l ≡ appointment_length) × All (day_needs l day) × (stands_on day only ≡ true)
  unfolding Stands day_needs appointment_needs
  passed h =
      let p = first_passed (λ n. (n, 0)) (answer l day) (0, 1) (λ o. o.0) (λ n. refl) ((3, length l ≡ appointment_length) ∷ day_needs l day)
      (omega arith) refl h in
      (p.0.0, p.0.1, yes_one (stands_on day only) (sym (ap (λ (o : ℕ × ℕ). o.1) p.1)))

  pub next_is_anniversary : Stands l day (0, 1) → NextChange l day (0, day_number (anniversary only.first only.term))
  unfolding NextChange day_needs appointment_needs stands_on stands between list_size
  next_is_anniversary h =
      let p = passed h in
      let from = day_number only.first in
      let to = day_number (anniversary only.first only.term) in
      let s = both (leb from day) (ltb day to) p.2 in
      let one : list_size l ≡ 1 = omega (arith, p.0) in
      let t = p.1.1.1.1.0.terms 0 (omega (arith, one)) in
      let f = first_to only t day (leb-true from day s.0) (ltb-true day to s.1) in
      first_all (λ n. (n, 0)) (next_day l day) (0, to) (day_needs l day) p.1
      (refl, first_same day to (λ m d. (0, omega (arith, one), d)) (λ m a. let z : a.0 ≡ 0 = omega (arith, a.1, one) in subst (λ (i : ℕ). Differs (appointment_at l i) day m) z a.2) f)
