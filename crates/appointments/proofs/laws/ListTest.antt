-- The tests of a list of appointments and of days with it, and the next change, by what computes.
use Prim.Native.Nat.{ℕ, suc, ◌%◌, ◌<◌}
use mathlib.Core.Path.{◌≡◌, refl}
use mathlib.Core.Bool.{Bool, true, false, cond, ◌&&◌}
use mathlib.Core.List.{List, [], ◌∷◌, ◌++◌}
use native.Mathlib.Numerals.{add-one}
use native.Mathlib.Omega.{arith}
use borrow.Author.Tests.{ltb-true, ltb-false}
use lib.Bits.{bit_and}
use lib.Dec.{eqb, leb, ltb}
use lib.ListN.{length}
use Rattle.index.specs.declared.Kind.TheVariants.{Membership}
use Rattle.index.specs.Letters.{may_have}
use Rattle.index.specs.Block.{name_count}
use Rattle.index.specs.Numbers.{Answers}
use Rattle.index.specs.Message.{marker_mask, Marked, Named, Masked}
use Rattle.index.specs.work.Checks.{Says}
use Rattle.index.proofs.laws.Answer.{says_same, less_says, equal_says}
use Rattle.index.proofs.laws.Deciding.{most_says, says_and, says_all, Decided, failing, answers_failing}
use Rattle.index.proofs.laws.Tests.{all}
use Rattle.index.proofs.laws.block.MayHave.{letters_test_lem, all_says}
use Rattle.calendar.specs.Dates.{day_number, IsDay}
use Rattle.calendar.specs.Terms.{anniversary, IsTerm}
use Rattle.calendar.proofs.laws.DateTest.{term_test, term_says, day_says}
use Rattle.appointments.specs.Appointment.{Appointment, appointment_length, most_appointments, list_size, byte_of, appointment_at, ListFormed, InRange, appointment_needs, day_needs}
use Rattle.appointments.specs.Asking.{Differs, IsFirst, IsNext}
use Rattle.appointments.specs.work.Listed.{sooner}
use Rattle.appointments.proofs.laws.NextDay.{AnotherOf, first_none, first_from, first_to, first_over, another_sooner}
use Rattle.appointments.proofs.laws.Tested.{marker_two}
use Rattle.appointments.proofs.laws.Moving.{days_needs}

-- ---- a list

module _ (l : List ℕ) where
  abbrev mark_test : ℕ → Bool
  mark_test i = leb (byte_of l i 5) 2

  mark_says : (i : ℕ) → Says (Marked (byte_of l i 5) Membership true) (mark_test i)
  mark_says i =
      let two = marker_two (byte_of l i 5) in
      says_same (mark_test i) two.1 two.0 (most_says (byte_of l i 5) 2)

  abbrev form_test : Bool
  form_test = eqb (length l % appointment_length) 0 && (all mark_test 0 (list_size l) && all (λ i. eqb (byte_of l i 11) 0) 0 (list_size l))

  form_says : Says (ListFormed l) form_test
  form_says =
      says_same form_test (λ p. record { whole = p.0; marked = p.1.0; zero = p.1.1 }) (λ f. (f.whole, (f.marked, f.zero)))
      (says_and _ _ (eqb (length l % appointment_length) 0) _ (equal_says (length l % appointment_length) 0)
      (says_and _ _ (all mark_test 0 (list_size l)) _ (says_all _ mark_test mark_says (list_size l))
      (says_all _ (λ i. eqb (byte_of l i 11) 0) (λ i. equal_says (byte_of l i 11) 0) (list_size l))))

  abbrev name_test : ℕ → Bool
  name_test i = ltb (appointment_at l i).membership.key name_count && ltb (appointment_at l i).membership.id name_count

  name_says : (i : ℕ) → Says (Named (appointment_at l i).membership) (name_test i)
  unfolding Named
  name_says i =
      let x = (appointment_at l i).membership.key in
      let y = (appointment_at l i).membership.id in
      says_and (x < name_count) (y < name_count) (ltb x name_count) (ltb y name_count) (less_says x name_count) (less_says y name_count)

  -- The letters that a membership may have, M, R, U, P, X and N, as a mask.
  abbrev mask_test : ℕ → Bool
  mask_test i =
      ltb 0 ((appointment_at l i).membership.mask % marker_mask)
      && eqb (bit_and (appointment_at l i).membership.mask 783) (appointment_at l i).membership.mask

  mask_says : (i : ℕ) → Says (Masked (appointment_at l i).membership) (mask_test i)
  unfolding Masked may_have appointment_at
  mask_says i =
      let mask = (appointment_at l i).membership.mask in
      says_and _ _ (ltb 0 (mask % marker_mask)) _ (less_says 0 (mask % marker_mask)) (all_says Membership 783 (letters_test_lem Membership 783 refl) mask)

  abbrev range_test : Bool
  range_test =
      leb (list_size l) most_appointments && all (λ i. term_test (appointment_at l i).first (appointment_at l i).term) 0 (list_size l)

  range_says : Says (InRange l) range_test
  range_says =
      says_same range_test (λ p. record { few = p.0; terms = p.1 }) (λ r. (r.few, r.terms))
      (says_and _ _ (leb (list_size l) most_appointments) _ (most_says (list_size l) most_appointments)
      (says_all _ (λ i. term_test (appointment_at l i).first (appointment_at l i).term)
      (λ i. term_says (appointment_at l i).first (appointment_at l i).term) (list_size l)))

  -- Its tests, and those of the days with it.
  abbrev list_tests : List Bool → List Bool
  list_tests more = form_test ∷ all name_test 0 (list_size l) ∷ all mask_test 0 (list_size l) ∷ range_test ∷ more

  list_decided : (ts : List (ℕ × Type 0)) (ss : List Bool) → Decided ts ss → Decided (appointment_needs l ++ ts) (list_tests ss)
  unfolding appointment_needs
  list_decided ts ss d =
      (form_says, (says_all _ name_test name_says (list_size l), (says_all _ mask_test mask_says (list_size l), (range_says, d))))

  -- The number that the list and a day get, and the list and two days.
  abbrev pub day_fails : ℕ → ℕ
  day_fails day = failing (day_needs l day) (list_tests (leb day 157053 ∷ []))

  pub day_fails_lem : (day : ℕ) → Answers (day_needs l day) (day_fails day)
  unfolding day_needs
  day_fails_lem day =
      answers_failing (day_needs l day) (list_tests (leb day 157053 ∷ []))
      (list_decided ((12, IsDay day) ∷ []) (leb day 157053 ∷ []) (day_says day, tt))

  abbrev pub days_fail : ℕ → ℕ → ℕ
  days_fail old new = failing (days_needs l old new) (list_tests (leb old 157053 ∷ leb new 157053 ∷ []))

  pub days_fail_lem : (old new : ℕ) → Answers (days_needs l old new) (days_fail old new)
  unfolding day_needs appointment_needs
  days_fail_lem old new =
      answers_failing (days_needs l old new) (list_tests (leb old 157053 ∷ leb new 157053 ∷ []))
      (list_decided ((12, IsDay old) ∷ (12, IsDay new) ∷ []) (leb old 157053 ∷ leb new 157053 ∷ []) (day_says old, (day_says new, tt)))

-- ---- the next change

-- Of one appointment, and of the first k of a list.
abbrev next_of : Appointment → ℕ → ℕ
next_of a day =
    cond (ltb day (day_number a.first)) (day_number a.first)
    (cond (ltb day (day_number (anniversary a.first a.term))) (day_number (anniversary a.first a.term)) 0)

abbrev next_in : List ℕ → ℕ → ℕ → ℕ
next_in l day ℕ.zero = 0
next_in l day (suc k) = sooner (next_in l day k) (next_of (appointment_at l k) day)

next_of_lem : (a : Appointment) (day : ℕ) → IsTerm a.first a.term → IsFirst (Differs a day) day (next_of a day)
next_of_lem a day t = go (ltb day from) refl (ltb day to) refl
  where
    from : ℕ
    from = day_number a.first

    to : ℕ
    to = day_number (anniversary a.first a.term)

    go : (s : Bool) → ltb day from ≡ s → (u : Bool) → ltb day to ≡ u → IsFirst (Differs a day) day (cond s from (cond u to 0))
    go true p u q = first_from a t day (ltb-true day from p)
    go false p true q = first_to a t day (omega (arith, ltb-false day from p)) (ltb-true day to q)
    go false p false q = first_over a t day (omega (arith, ltb-false day to q))

next_in_lem : (l : List ℕ) (day k : ℕ) → ((i : ℕ) → i < k → IsTerm (appointment_at l i).first (appointment_at l i).term)
    → IsFirst (AnotherOf l k day) day (next_in l day k)
next_in_lem l day ℕ.zero t = first_none day (λ m d. omega (arith, d.1))
next_in_lem l day (suc k) t =
    rw (← add-one k)
    (another_sooner l k day (next_in l day k) (next_of (appointment_at l k) day) (next_in_lem l day k (λ i h. t i (omega arith)))
    (next_of_lem (appointment_at l k) day (t k (omega arith))))

abbrev pub next_test : List ℕ → ℕ → ℕ
next_test l day = next_in l day (list_size l)

pub next_test_lem : (l : List ℕ) (day : ℕ) → InRange l → IsNext l day (next_test l day)
next_test_lem l day r = next_in_lem l day (list_size l) r.terms
