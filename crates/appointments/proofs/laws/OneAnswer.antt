-- Each call on appointments has one answer.
use Prim.Native.Nat.{ℕ, ◌<◌}
use mathlib.Core.Path.{◌≡◌, refl, sym, ap, ◌∙◌}
use mathlib.Core.Bool.{Bool}
use mathlib.Core.List.{List, ◌∷◌}
use mathlib.Core.Logic.{◌⊎◌, inl, inr}
use native.Mathlib.Omega.{arith}
use lib.ListN.{length}
use Rattle.std.specs.Prelude.{Option, Some, None, Result, Ok, Err}
use Rattle.index.specs.Numbers.{yes_no}
use Rattle.index.specs.declared.refusals.Refusal.{Refusal}
use Rattle.index.specs.Message.{Carried}
use Rattle.index.proofs.laws.OneFirst.{one_first}
use Rattle.index.proofs.laws.OneResult.{answer_once, one_yes_no}
use Rattle.index.proofs.laws.Refusing.{some, once}
use Rattle.index.proofs.laws.message.OneMessage.{one_run}
use Rattle.calendar.specs.Dates.{IsDay}
use Rattle.appointments.specs.Appointment.{appointment_length, day_needs}
use Rattle.appointments.specs.Moves.{move_needs, Moved}
use Rattle.appointments.specs.Asking.{Stands, IsFirst, NextChange, StandsAnswers, NextAnswers}
use Rattle.appointments.proofs.laws.Asked.{answer, next_day}
use Rattle.appointments.proofs.laws.Moving.{steps}

pub one_moved : (b l : List ℕ) (old new : ℕ) (o o' : ℕ × List ℕ) → Moved b l old new o → Moved b l old new o' → o ≡ o'
unfolding Moved
one_moved b l old new =
    one_first (λ n. (n, b)) (move_needs b l old new) (Carried b (steps l old new) b) (one_run b (steps l old new) b)

-- ---- an appointment

pub one_stands : (l : List ℕ) (day : ℕ) (o o' : ℕ × ℕ) → Stands l day o → Stands l day o' → o ≡ o'
unfolding Stands
one_stands l day =
    one_first (λ n. (n, 0)) ((3, length l ≡ appointment_length) ∷ day_needs l day) (answer l day) (λ o o' p q. p ∙ sym q)

pub one_stood : (l : List ℕ) (day : ℕ) (r s : Result Bool Refusal) → StandsAnswers l day r → StandsAnswers l day s → r ≡ s
unfolding StandsAnswers
one_stood l day = answer_once yes_no 0 one_yes_no (Stands l day) (one_stands l day)

-- ---- the next change

pub one_day : {P : ℕ → Type 0} (day n m : ℕ) → IsFirst P day n → IsFirst P day m → n ≡ m
one_day {P} day n m p q = go p.there q.there
  where
    go : (n ≡ 0) ⊎ ((day < n) × IsDay n × P n) → (m ≡ 0) ⊎ ((day < m) × IsDay m × P m) → n ≡ m
    go (inl e) (inl f) = e ∙ sym f
    go (inl e) (inr f) = absurd (omega (arith, (p.first m f.0 f.1 f.2).0))
    go (inr e) (inl f) = absurd (omega (arith, (q.first n e.0 e.1 e.2).0))
    go (inr e) (inr f) = omega (arith, (p.first m f.0 f.1 f.2).1, (q.first n e.0 e.1 e.2).1)

pub one_next_change : (l : List ℕ) (day : ℕ) (o o' : ℕ × ℕ) → NextChange l day o → NextChange l day o' → o ≡ o'
unfolding NextChange
one_next_change l day =
    one_first (λ n. (n, 0)) (day_needs l day) (next_day l day)
    (λ o o' p q.
    let n : o.0 ≡ o'.0 = p.0 ∙ sym q.0 in
    let v : o.1 ≡ o'.1 = one_day day o.1 o'.1 p.1 q.1 in
    λ i. (n i, v i))

number : {o o' : ℕ × ℕ} → o ≡ o' → o.0 ≡ o'.0
number e = ap (λ (o : ℕ × ℕ). o.0) e

value : {o o' : ℕ × ℕ} → o ≡ o' → o.1 ≡ o'.1
value e = ap (λ (o : ℕ × ℕ). o.1) e

pub one_next : (l : List ℕ) (day : ℕ) (r s : Result (Option ℕ) Refusal) → NextAnswers l day r → NextAnswers l day s → r ≡ s
unfolding NextAnswers
one_next l day (Ok (Some n)) (Ok (Some m)) p q = ap (λ (k : ℕ). Ok (Some k)) (value (one_next_change l day (0, n) (0, m) p.1 q.1))
one_next l day (Ok (Some n)) (Ok None) p q = absurd (omega (arith, p.0, value (one_next_change l day (0, n) (0, 0) p.1 q)))
one_next l day (Ok (Some n)) (Err e) p q = absurd (some e (sym (number (one_next_change l day (0, n) (_, 0) p.1 q))))
one_next l day (Ok None) (Ok (Some m)) p q = absurd (omega (arith, q.0, value (one_next_change l day (0, 0) (0, m) p q.1)))
one_next l day (Ok None) (Ok None) p q = refl
one_next l day (Ok None) (Err e) p q = absurd (some e (sym (number (one_next_change l day (0, 0) (_, 0) p q))))
one_next l day (Err e) (Ok (Some m)) p q = absurd (some e (number (one_next_change l day (_, 0) (0, m) p q.1)))
one_next l day (Err e) (Ok None) p q = absurd (some e (number (one_next_change l day (_, 0) (0, 0) p q)))
one_next l day (Err e) (Err f) p q = ap Err (once e f (number (one_next_change l day (_, 0) (_, 0) p q)))
