-- The memberships of those that a test picks.
use Prim.Native.Nat.{ℕ, suc, ◌+◌, ◌<◌, ◌≤◌}
use mathlib.Core.Path.{◌≡◌, refl}
use mathlib.Core.Bool.{Bool, true, false, cond, not, ◌&&◌}
use mathlib.Core.List.{List, [], ◌∷◌}
use native.Mathlib.Omega.{arith}
use lib.ListN.{length}
use Rattle.index.specs.declared.Kind.{Kind}
use Rattle.index.specs.Numbers.{Each}
use Rattle.index.specs.Message.{Half}
use Rattle.index.specs.History.{moves_of}
use Rattle.appointments.specs.Appointment.{Appointment, list_size, appointment_at, appointments_from, appointments, EachIn, stands_on, only_on, those, standing, standing_only}
use Rattle.appointments.proofs.laws.Rest.{all_length}

pub those_yes : (test : Appointment → Bool) (a : Appointment) (later : List Appointment) → test a ≡ true
    → those test (a ∷ later) ≡ a.membership ∷ those test later
unfolding those
those_yes test a later e = rw e

pub those_no : (test : Appointment → Bool) (a : Appointment) (later : List Appointment) → test a ≡ false → those test (a ∷ later) ≡ those test later
unfolding those
those_no test a later e = rw e

-- ---- how many

one_more : (t : Bool) (h : Half) (hs : List Half) → length (cond t (h ∷ hs) hs) ≡ cond t 1 0 + length hs
one_more true h hs = omega arith
one_more false h hs = omega arith

-- None stands on the one day only and on the other only.
one_of_two : (s t : Bool) → cond (s && not t) 1 0 + cond (t && not s) 1 0 ≤ 1
one_of_two true true = omega arith
one_of_two true false = omega arith
one_of_two false true = omega arith
one_of_two false false = omega arith

both_fit : (day other : ℕ) (later : List Appointment) → length (those (only_on day other) later) + length (those (only_on other day) later) ≤ length later
unfolding those only_on
both_fit day other [] = omega arith
both_fit day other (a ∷ later) =
    omega (
      arith,
      both_fit day other later,
      one_more (only_on day other a) a.membership (those (only_on day other) later),
      one_more (only_on other day a) a.membership (those (only_on other day) later),
      one_of_two (stands_on day a) (stands_on other a),
    )

-- Those taken and those added are no more than the list has.
pub no_more : (l : List ℕ) (old new : ℕ) → length (standing_only l old new) + length (standing_only l new old) ≤ list_size l
unfolding standing_only
no_more l old new = omega (arith, both_fit old new (appointments l), all_length l)

-- ---- what holds of each membership

module _ (P : Half → Type 0) (test : Appointment → Bool) where
  those_each : (l : List ℕ) (i n : ℕ) → ((j : ℕ) → j < i + n → P (appointment_at l j).membership) → Each P (those test (appointments_from l i n))
  unfolding those appointments_from
  those_each l i ℕ.zero p = tt
  those_each l i (suc n) p = go (test (appointment_at l i)) (those_each l (i + 1) n (λ j h. p j (omega arith)))
    where
      go : (t : Bool) → Each P (those test (appointments_from l (i + 1) n))
          → Each P (cond t ((appointment_at l i).membership ∷ those test (appointments_from l (i + 1) n)) (those test (appointments_from l (i + 1) n)))
      go true r = (p i (omega arith), r)
      go false r = r

pub each_only : (P : Half → Type 0) (l : List ℕ) (day other : ℕ) → EachIn l (λ a. P a.membership) → Each P (standing_only l day other)
unfolding standing_only appointments
each_only P l day other p = those_each P (only_on day other) l 0 (list_size l) (λ j h. p j (omega arith))

-- ---- what they move

module _ (kind : Kind) (x y k : ℕ) where
  -- What one appointment more adds.
  more : (p : Appointment → Bool) (a : Appointment) (later : List Appointment)
      → moves_of (those p (a ∷ later)) kind x y k ≡ cond (p a) (moves_of (a.membership ∷ []) kind x y k) 0 + moves_of (those p later) kind x y k
  unfolding those moves_of
  more p a later = go (p a)
    where
      go : (t : Bool) → moves_of (cond t (a.membership ∷ those p later) (those p later)) kind x y k
          ≡ cond t (moves_of (a.membership ∷ []) kind x y k) 0 + moves_of (those p later) kind x y k
      go true = omega arith
      go false = omega arith

  exchange : (s t : Bool) (n : ℕ) → cond t n 0 + cond (s && not t) n 0 ≡ cond s n 0 + cond (t && not s) n 0
  exchange true true n = refl
  exchange true false n = omega arith
  exchange false true n = omega arith
  exchange false false n = refl

  part : (s t : Bool) (n : ℕ) → cond (s && not t) n 0 ≤ cond s n 0
  part true true n = omega arith
  part true false n = omega arith
  part false t n = omega arith

  balance : (old new : ℕ) (later : List Appointment)
      → moves_of (those (stands_on new) later) kind x y k + moves_of (those (only_on old new) later) kind x y k
      ≡ moves_of (those (stands_on old) later) kind x y k + moves_of (those (only_on new old) later) kind x y k
  unfolding those moves_of only_on
  balance old new [] = refl
  balance old new (a ∷ later) =
      omega (
        arith,
        balance old new later,
        more (stands_on new) a later,
        more (only_on old new) a later,
        more (stands_on old) a later,
        more (only_on new old) a later,
        exchange (stands_on old a) (stands_on new a) (moves_of (a.membership ∷ []) kind x y k),
      )

  within : (old new : ℕ) (later : List Appointment)
      → moves_of (those (only_on old new) later) kind x y k ≤ moves_of (those (stands_on old) later) kind x y k
  unfolding those moves_of only_on
  within old new [] = omega arith
  within old new (a ∷ later) =
      omega (
        arith,
        within old new later,
        more (only_on old new) a later,
        more (stands_on old) a later,
        part (stands_on old a) (stands_on new a) (moves_of (a.membership ∷ []) kind x y k),
      )

  -- Those on the new day, with those taken, are those on the old day, with those added.
  pub day_balance : (l : List ℕ) (old new : ℕ)
      → moves_of (standing l new) kind x y k + moves_of (standing_only l old new) kind x y k
      ≡ moves_of (standing l old) kind x y k + moves_of (standing_only l new old) kind x y k
  unfolding standing standing_only
  day_balance l old new = balance old new (appointments l)

  -- The old day has all those taken.
  pub all_there : (l : List ℕ) (old new : ℕ) → moves_of (standing_only l old new) kind x y k ≤ moves_of (standing l old) kind x y k
  unfolding standing standing_only
  all_there l old new = within old new (appointments l)
