-- M-105: the five empty programs, and those that it names, are turned away.
use Prim.Native.Nat.{ℕ, ◌<◌}
use mathlib.Core.Path.{◌≡◌, refl, sym, ap, subst, ◌∙◌}
use mathlib.Core.List.{List}
use native.Mathlib.Omega.{arith}
use lib.ListN.{get_or}
use Rattle.index.specs.declared.Kind.TheVariants.{Membership}
use Rattle.index.specs.Block.{number, count_at, count_from, count}
use Rattle.index.specs.Message.{kind_number, moves}
use Rattle.index.specs.Calls.{Makes, Sends}
use Rattle.index.specs.History.{Statement, History, moves_of}
use Rattle.calendar.specs.declared.Date.{Date}
use Rattle.calendar.specs.Dates.{date, leap_day, months, month_days, sum, years_days, day_number}
use Rattle.calendar.specs.Terms.{in_month, anniversary, between, stands}
use Rattle.calendar.specs.Calls.{DayOf, DateOf, AnniversaryOf}
use Rattle.calendar.proofs.laws.OneAnswer.{one_day_of, one_date_of, one_anniversary_of}
use Rattle.appointments.specs.Appointment.{list_size, appointment_at, appointments_from, appointments, stands_on, those, standing}
use Rattle.appointments.specs.Moves.{Moved}
use Rattle.appointments.specs.Asking.{Stands, NextChange}
use Rattle.appointments.specs.Days.{Event, Last, Mixed}
use Rattle.appointments.proofs.laws.Moving.{move_unchanged}
use Rattle.appointments.proofs.laws.OneAnswer.{one_moved, one_stands, one_next_change}
use Rattle.appointments.proofs.laws.SecondHalf.{second_half}
use Rattle.tight.specs.Appointed.{both, first_one, second_one, thursday, friday, member, without}
use Rattle.tight.specs.DayPrograms.{DayProgram, DayMeets, RefusesEverything, AnswersTheSame, ChangesNothing, OnlyTheFirst, Handed, MakesUpCounts, OnlyAdds, TakesAll, LeavesHalfDone}
use Rattle.tight.proofs.Programs.{keeps}
use Rattle.tight.proofs.Appointed.{dates_right, terms_right, story_right, corners_right}

module _ (p : DayProgram) (meets : DayMeets p) where
  -- ---- each call gives the one outcome that its promise allows

  days : {y m d : ℕ} {o : ℕ × ℕ} → DayOf y m d o → p.day y m d ≡ o
  days {y} {m} {d} {o} h = one_day_of y m d (p.day y m d) o (meets.day y m d) h

  dates : {n : ℕ} {o : ℕ × Date} → DateOf n o → p.date n ≡ o
  dates {n} {o} h = one_date_of n (p.date n) o (meets.date n) h

  anniversaries : {first : Date} {term : ℕ} {o : ℕ × Date} → AnniversaryOf first term o → p.anniversary first term ≡ o
  anniversaries {first} {term} {o} h = one_anniversary_of first term (p.anniversary first term) o (meets.anniversary first term) h

  pub moves_to : {b l : List ℕ} {old new : ℕ} {o : ℕ × List ℕ} → Moved b l old new o → p.move b l old new ≡ o
  moves_to {b} {l} {old} {new} {o} h = one_moved b l old new (p.move b l old new) o (meets.move b l old new) h

  nexts : {l : List ℕ} {n : ℕ} {o : ℕ × ℕ} → NextChange l n o → p.next l n ≡ o
  nexts {l} {n} {o} h = one_next_change l n (p.next l n) o (meets.next l n) h

  standings : {l : List ℕ} {n : ℕ} {o : ℕ × ℕ} → Stands l n o → p.stands l n ≡ o
  standings {l} {n} {o} h = one_stands l n (p.stands l n) o (meets.stands l n) h

  kept : (b l : List ℕ) (old new : ℕ) → 0 < (p.move b l old new).0 → (p.move b l old new).1 ≡ b
  kept b l old new h = move_unchanged b l old new (p.move b l old new) (meets.move b l old new) h

  -- ---- the five

  pub not_refusing : RefusesEverything p → ⊥
  not_refusing (RefusesEverything.days r) = omega (arith, rw (days dates_right.0.0) at (r 1970 1 1))
  not_refusing (RefusesEverything.dates r) = omega (arith, rw (dates dates_right.0.1) at (r 0))
  not_refusing (RefusesEverything.anniversaries r) = omega (arith, rw (anniversaries terms_right.0) at (r (date 2024 2 29) 12))
  not_refusing (RefusesEverything.moves r) = omega (arith, rw (moves_to story_right.0) at (r without both 0 thursday))
  not_refusing (RefusesEverything.nexts r) = omega (arith, rw (nexts story_right.1.1.1.0) at (r both thursday))
  not_refusing (RefusesEverything.standings r) = omega (arith, rw (standings story_right.1.1.0) at (r first_one thursday))

  -- The first and the last day, two anniversaries of 29 February 2024, Friday and summer, and the first appointment on Thursday and on Friday.
  pub not_the_same : AnswersTheSame p → ⊥
  not_the_same (AnswersTheSame.days v same) =
      let one = rw (days dates_right.0.0) at (same 1970 1 1) in
      let other = rw (days dates_right.1.0.0) at (same 2399 12 31) in
      omega (arith, one refl, other refl)
  not_the_same (AnswersTheSame.dates v same) =
      let one = rw (dates dates_right.0.1) at (same 0) in
      let other = rw (dates dates_right.1.0.1) at (same 157053) in
      omega (arith, ap (λ (d : Date). d.year) (one refl), ap (λ (d : Date). d.year) (other refl))
  not_the_same (AnswersTheSame.anniversaries v same) =
      let one = rw (anniversaries terms_right.0) at (same (date 2024 2 29) 12) in
      let other = rw (anniversaries terms_right.1.0) at (same (date 2024 2 29) 48) in
      omega (arith, ap (λ (d : Date). d.year) (one refl), ap (λ (d : Date). d.year) (other refl))
  not_the_same (AnswersTheSame.nexts v same) =
      let one = rw (nexts story_right.1.1.1.0) at (same both thursday) in
      let other = rw (nexts story_right.1.1.1.1.1.1.1.1.0) at (same both friday) in
      omega (arith, one refl, other refl)
  not_the_same (AnswersTheSame.standings v same) =
      let one = rw (standings story_right.1.1.0) at (same first_one thursday) in
      let other = rw (standings story_right.1.1.1.1.0) at (same first_one friday) in
      omega (arith, one refl, other refl)

  -- The number of M records tells the two blocks apart.
  pub not_idle : ChangesNothing p → ⊥
  not_idle keeps =
      let same = rw (moves_to story_right.0) at (keeps without both 0 thursday) in
      omega (arith, ap (λ (b : List ℕ). get_or b 0 0) same)

  -- Overnight, with the membership and the P record in the block, the count of R goes from 2 to 1.
  pub not_only_first : OnlyTheFirst p → ⊥
  unfolding number
  not_only_first accepts =
      let same = sym (moves_to story_right.1.1.1.1.1.1.0) ∙ accepts (member 2) both thursday friday (omega arith) in
      omega (arith, ap (λ (o : ℕ × List ℕ). get_or o.1 22 0) same)

  as_mixed : {l b b' : List ℕ} {s s' : List Statement} {d d' : Last} {es : List Event} → Handed p l b s d es b' s' d' → Mixed l b s d es b' s' d'
  as_mixed Handed.nothing = Mixed.nothing
  as_mixed (Handed.accepted {b = b} {m = m} e q h) =
      Mixed.told
      (History.accepted (subst (λ (n : ℕ). Sends b m.sent (n, (p.base.sends b m.sent).1)) e (meets.base.sends b m.sent)) q History.nothing)
      (as_mixed h)
  as_mixed {l} {b' = b'} {s' = s'} {d' = d'} (Handed.refused {b = b} {m = m} {s = s} {d = d} {es = es} n h) =
      let e = keeps p.base meets.base b m.sent n in
      Mixed.told
      (History.refused n (subst (λ (c : List ℕ). Sends b m.sent ((p.base.sends b m.sent).0, c)) e (meets.base.sends b m.sent)) History.nothing)
      (subst (λ (c : List ℕ). Mixed l c s d es b' s' d') e (as_mixed h))
  as_mixed {l} (Handed.moved {b = b} {old = old} {new = new} e q h) =
      Mixed.moved (subst (λ (n : ℕ). Moved b l old new (n, (p.move b l old new).1)) e (meets.move b l old new)) q (as_mixed h)
  as_mixed {l} {b' = b'} {s' = s'} {d' = d'} (Handed.stayed {b = b} {s = s} {d = d} {old = old} {new = new} {es = es} n h) =
      let e = kept b l old new n in
      Mixed.refused n (subst (λ (c : List ℕ). Moved b l old new ((p.move b l old new).0, c)) e (meets.move b l old new))
      (subst (λ (c : List ℕ). Mixed l c s d es b' s' d') e (as_mixed h))

  pub not_made_up : MakesUpCounts p → ⊥
  not_made_up u =
      let b = p.base.make u.lent in
      u.differs
      (second_half u.list u.lent b.1 u.block u.events u.statements u.last
      (subst (λ (n : ℕ). Makes u.lent (n, b.1)) u.made (meets.base.make u.lent)) (as_mixed u.handed)
      u.kind u.key u.id u.letter u.is_letter)

  -- ---- those that M-105 names

  -- From summer back to Thursday two are added; from Friday back to the first day of all one is taken.
  pub not_only_adding : OnlyAdds p → ⊥
  unfolding number count_at count_from count
  not_only_adding adds = omega (arith, rw (moves_to corners_right.1.1.1.1.0) at (adds (member 1) both friday 0 (omega arith) Membership 1 2 1))

  -- The second appointment stands on both days, and the block does not count it.
  pub not_taking_all : TakesAll p → ⊥
  unfolding number count_at count_from count kind_number moves moves_of list_size appointment_at appointments_from appointments stands_on those standing stands between anniversary in_month day_number years_days months month_days sum leap_day
  not_taking_all takes =
      takes without second_one thursday friday Membership 1 2 1 (omega arith) refl (omega arith)
      (ap (λ (o : ℕ × List ℕ). o.0) (moves_to corners_right.0))

  -- "with nothing applied"
  pub not_half_done : LeavesHalfDone p → ⊥
  not_half_done h = h.changed (kept h.block h.list h.old h.new h.refused)
