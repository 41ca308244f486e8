-- Tests of a move that compute: through the blocks given to the end, or until it is refused; and of what a host asks besides.
use Prim.Native.Nat.{ℕ}
use mathlib.Core.Path.{◌≡◌, refl}
use mathlib.Core.Bool.{true, cond}
use mathlib.Core.List.{List, ◌∷◌}
use native.Mathlib.Omega.{arith}
use lib.ListN.{length}
use Rattle.index.specs.Message.{Carried}
use Rattle.index.specs.Calls.{block_needs}
use Rattle.index.proofs.laws.Firsts.{passed, first_all}
use Rattle.index.proofs.laws.message.MessageTest.{none_left, none_left_lem, through_test, through_test_lem, last_of}
use Rattle.appointments.specs.Appointment.{appointment_length, appointment_at, appointment_needs, day_needs, stands_on}
use Rattle.appointments.specs.Moves.{move_needs, Moved}
use Rattle.appointments.specs.Asking.{Stands, NextChange}
use Rattle.appointments.proofs.laws.Moving.{steps, days_needs, list_refuses}
use Rattle.appointments.proofs.laws.Asked.{answer, next_day, day_passed, day_range}
use Rattle.appointments.proofs.laws.ListTest.{day_fails, day_fails_lem, days_fail, days_fail_lem, next_test, next_test_lem}
use Rattle.tight.proofs.BlockTest.{block_test, block_test_lem}
use Rattle.tight.proofs.RefusedTest.{stop_test, stop_test_lem}

module _ (b l : List ℕ) (old new : ℕ) (g : block_test b ≡ true) where
  -- Where the tests are passed, the changes decide.
  module _ (e : days_fail l old new ≡ 0) where
    decides : (o : ℕ × List ℕ) → Carried b (steps l old new) b o → Moved b l old new o
    unfolding Moved move_needs block_needs appointment_needs day_needs
    decides o c =
        let t = block_test_lem b g in
        first_all (λ n. (n, b)) (Carried b (steps l old new) b) o (move_needs b l old new)
        (t.0, (t.1, passed (days_needs l old new) (omega arith) e (days_fail_lem l old new))) c

    pub moved_test : (ds : List (List ℕ)) → through_test none_left (steps l old new) b ds ≡ true → Moved b l old new (0, last_of b ds)
    moved_test ds f = decides (0, last_of b ds) (through_test_lem none_left b (λ b. (0, b)) (none_left_lem b) (steps l old new) b ds f)

    pub stopped_test : (ds : List (List ℕ)) (r : ℕ) → stop_test (steps l old new) b ds r ≡ true → Moved b l old new (r, b)
    stopped_test ds r f = decides (r, b) (stop_test_lem b (steps l old new) b ds r f)

  -- The list, or a day, is refused.
  pub damaged_test : (r : ℕ) → days_fail l old new ≡ r → (r ≡ 0 → ⊥) → Moved b l old new (r, b)
  unfolding block_needs
  damaged_test r e n =
      let t = block_test_lem b g in
      list_refuses l old new b refl (first_all (λ n. n) (λ n. n ≡ 0) 0 (block_needs b) (t.0, (t.1, tt)) refl) n
      (rw e at (days_fail_lem l old new))

-- ---- what a host asks

module _ (l : List ℕ) (day : ℕ) (e : day_fails l day ≡ 0) where
  pub stands_test : (r : ℕ) → length l ≡ appointment_length → cond (stands_on day (appointment_at l 0)) 1 0 ≡ r → Stands l day (0, r)
  unfolding Stands
  stands_test r h s =
      first_all (λ n. (n, 0)) (answer l day) (0, r) ((3, length l ≡ appointment_length) ∷ day_needs l day)
      (h, day_passed l day e (day_fails_lem l day)) (rw s)

  pub next_change_test : (n : ℕ) → next_test l day ≡ n → NextChange l day (0, n)
  unfolding NextChange
  next_change_test n s =
      first_all (λ n. (n, 0)) (next_day l day) (0, n) (day_needs l day) (day_passed l day e (day_fails_lem l day))
      (refl, rw s at (next_test_lem l day (day_range l day e (day_fails_lem l day))))
