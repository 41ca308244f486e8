-- What an answer of the libraries below stands for is what C gets.
use Prim.Native.Nat.{ℕ, ◌<◌}
use mathlib.Core.Path.{◌≡◌, refl}
use mathlib.Core.List.{List}
use native.Mathlib.Omega.{arith}
use Rattle.std.specs.Prelude.{Option, Some, None, Result, Ok, Err}
use Rattle.index.specs.declared.refusals.Refusal.{Refusal}
use Rattle.index.specs.declared.refusals.ReadError.{ReadError}
use Rattle.index.specs.declared.refusals.ReadError.TheVariants.{NotASet, Refused}
use Rattle.index.specs.Numbers.{number, number_of, Means, ReadMeans}
use Rattle.rights.specs.declared.grants.Reach.{Reach}
use Rattle.rights.specs.Questions.{RightsMean}
use Rattle.slips.specs.declared.Slip.{Slip}
use Rattle.slips.specs.Calls.{SoughtMeans}
use Rattle.calendar.specs.declared.Date.{Date}
use Rattle.calendar.specs.Calls.{no_date, DateAnswers}
use Rattle.appointments.specs.Asking.{NextChange, NextAnswers}
use Rattle.anaqsiro.specs.Returned.{Packed, Parts, Returned, InParts, ChainParts, InChains, DateParts}
use Rattle.anaqsiro.specs.work.Answered.{no_value, day_or_none, rights_value, chains_value, date_value}
use Rattle.anaqsiro.proofs.Fits.{PartsFit, DateFits}

-- r is the answer's number and its value, packed.
abbrev pub Gets : {A : Type 0} → (A → ℕ) → Result A Refusal → ℕ → Type 0
Gets value a r = Means value 0 (λ o. Packed o.0 o.1 r) a

-- An answer whose value is the outcome's.
pub means_returned : {A : Type 0} (value : A → ℕ) (Outcome : ℕ × ℕ → Type 0) (a : Result A Refusal) {r : ℕ} → Means value 0 Outcome a → Gets value a r
    → Returned (λ n v. Outcome (n, v)) r
means_returned value Outcome (Ok a) p packed = (0, value a, packed, p)
means_returned value Outcome (Err e) p packed = (number e, 0, packed, p)

-- An answer that is a number alone: the value is 0.
pub number_returned : (P : ℕ → Type 0) (a : Result (Unit {0}) Refusal) {r : ℕ} → P (number_of a) → Gets no_value a r
    → Returned (λ n v. (v ≡ 0) × P n) r
number_returned P (Ok a) p packed = (0, 0, packed, (refl, p))
number_returned P (Err e) p packed = (number e, 0, packed, (refl, p))

-- The same of an outcome that has the value 0 in it.
pub zero_returned : (P : ℕ → ℕ → Type 0) (a : Result (Unit {0}) Refusal) {r : ℕ} → P (number_of a) 0 → Gets no_value a r → Returned P r
zero_returned P (Ok a) p packed = (0, 0, packed, p)
zero_returned P (Err e) p packed = (number e, 0, packed, p)

pub read_returned : (Outcome : ℕ × ℕ → Type 0) (a : Result ℕ ReadError) {r : ℕ} → ReadMeans Outcome a → ReadMeans (λ o. Packed o.0 o.1 r) a
    → Returned (λ n v. Outcome (n, v)) r
read_returned Outcome (Ok n) p packed = (0, n, packed, p)
read_returned Outcome (Err (NotASet place)) p packed = (9, place, packed, p)
read_returned Outcome (Err (Refused e)) p packed = (number e, 0, packed, p)

-- ---- values of several parts

pub rights_returned : (Outcome : ℕ × ℕ × ℕ × ℕ → Type 0) (a : Result Reach Refusal) {r : ℕ} → PartsFit a → RightsMean Outcome a → Gets rights_value a r
    → Returned (InParts Outcome) r
rights_returned Outcome (Ok a) fit p packed =
    let parts : Parts a.rights a.user a.object (rights_value a) = record { is = refl; rights_fit = fit.0; user_fits = fit.1.0 } in
    (0, rights_value a, packed, (a.rights, a.user, a.object, parts, p))
rights_returned Outcome (Err e) fit p packed =
    let none : Parts 0 0 0 0 = record { is = refl; rights_fit = omega arith; user_fits = omega arith } in
    (number e, 0, packed, (0, 0, 0, none, p))

-- M-103

no_names : ChainParts 0 0 0
no_names = record { is = refl; user_fits = omega arith }

pub sought_returned : (Outcome : ℕ → ℕ → ℕ → Type 0) (a : Result (Option Slip) Refusal) {r : ℕ} → ((s : Slip) → a ≡ Ok (Some s) → s.users < 256)
    → SoughtMeans Outcome a → Gets chains_value a r → Returned (InChains Outcome) r
sought_returned Outcome (Ok (Some s)) small p packed =
    (0, chains_value (Some s), packed, (s.users, s.objects, record { is = refl; user_fits = small s refl }, p.1))
sought_returned Outcome (Ok None) small p packed = (0, 0, packed, (0, 0, no_names, p))
sought_returned Outcome (Err e) small p packed = (number e, 0, packed, (0, 0, no_names, p))

-- M-105

pub date_returned : (Outcome : ℕ × Date → Type 0) (a : Result Date Refusal) {r : ℕ} → DateFits a → DateAnswers Outcome a → Gets date_value a r
    → Returned (λ n v. (d : Date) × DateParts d v × Outcome (n, d)) r
unfolding DateAnswers
date_returned Outcome (Ok d) fit p packed =
    let parts : DateParts d (date_value d) = record { is = refl; day_fits = fit.0; month_fits = fit.1 } in
    (0, date_value d, packed, (d, parts, p))
date_returned Outcome (Err e) fit p packed =
    let none : DateParts no_date 0 = record { is = refl; day_fits = omega arith; month_fits = omega arith } in
    (number e, 0, packed, (no_date, none, p))

pub next_returned : (l : List ℕ) (day : ℕ) (a : Result (Option ℕ) Refusal) {r : ℕ} → NextAnswers l day a → Gets day_or_none a r
    → Returned (λ n v. NextChange l day (n, v)) r
unfolding NextAnswers
next_returned l day (Ok (Some n)) p packed = (0, n, packed, p.1)
next_returned l day (Ok None) p packed = (0, 0, packed, p)
next_returned l day (Err e) p packed = (number e, 0, packed, p)
