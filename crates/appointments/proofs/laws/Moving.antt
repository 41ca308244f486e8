-- A move is the list of its changes, carried out.
use Prim.Native.Nat.{ℕ, ◌<◌}
use mathlib.Core.Path.{◌≡◌, refl, subst}
use mathlib.Core.List.{List, [], ◌∷◌, ◌++◌}
use native.Mathlib.Omega.{arith}
use Rattle.index.specs.Numbers.{First, Answers}
use Rattle.index.specs.Message.{Change, changes, Carried, packed_changes}
use Rattle.index.specs.Calls.{block_needs, list_needs, CarriesOut}
use Rattle.index.proofs.laws.Firsts.{All, passed, refuses, refused_first, passed_first, without_last, with_last}
use Rattle.index.proofs.laws.OneFirst.{first_cases}
use Rattle.index.proofs.laws.message.ListTests.{own_needs}
use Rattle.index.proofs.laws.message.OneMessage.{run_cases}
use Rattle.calendar.specs.Dates.{IsDay}
use Rattle.appointments.specs.Appointment.{InRange, appointment_needs, day_needs, standing_only}
use Rattle.appointments.specs.Moves.{move_needs, Moved}
use Rattle.appointments.proofs.laws.Tested.{Bytes, changes_pass}

module _ (l : List ℕ) (old new : ℕ) where
  -- The changes, those to be taken away before those to be added.
  abbrev pub steps : List Change
  steps = changes (standing_only l old new) (standing_only l new old)

  -- What a move needs beyond the block.
  abbrev pub days_needs : List (ℕ × Type 0)
  days_needs = day_needs l old ++ ((12, IsDay new) ∷ [])

  days_passed : Answers days_needs 0 → All days_needs
  unfolding appointment_needs day_needs
  days_passed = passed days_needs (omega arith) refl

  list_passed : All days_needs → All (appointment_needs l)
  unfolding appointment_needs day_needs
  list_passed p = (p.0, (p.1.0, (p.1.1.0, (p.1.1.1.0, tt))))

  pub in_range : Answers days_needs 0 → InRange l
  unfolding appointment_needs day_needs
  in_range a = (days_passed a).1.1.1.0

  module _ (b : List ℕ) where
    pub block_refuses : {r : ℕ} → (r ≡ 0 → ⊥) → Answers (block_needs b) r → Moved b l old new (r, b)
    unfolding Moved move_needs
    block_refuses {r} n a = refused_first (λ n. (n, b)) (block_needs b) days_needs (Carried b steps b) r (omega arith) a

    pub list_refuses : {n r : ℕ} → n ≡ 0 → Answers (block_needs b) n → (r ≡ 0 → ⊥) → Answers days_needs r → Moved b l old new (r, b)
    unfolding Moved move_needs block_needs
    list_refuses {n} {r} z t u a =
        passed_first (λ n. (n, b)) (block_needs b) days_needs (Carried b steps b) (r, b) (passed (block_needs b) (omega arith) z t)
        (refuses (λ n. (n, b)) (Carried b steps b) days_needs u a)

    pub carried : Bytes l → (cs : List ℕ) (o : ℕ × List ℕ) → Answers days_needs 0 → packed_changes cs ≡ steps → CarriesOut b cs o
        → Moved b l old new o
    unfolding Moved move_needs CarriesOut list_needs
    carried bytes cs o a e h =
        let all = days_passed a in
        with_last (λ n. (n, b)) (block_needs b) days_needs (Carried b steps b) o all
        (subst (λ (ds : List Change). First (λ n. (n, b)) (block_needs b) (Carried b ds b) o) e
        (without_last (λ n. (n, b)) (block_needs b) (own_needs cs) (Carried b (packed_changes cs) b) o
        (changes_pass l cs old new e bytes (list_passed all)) h))

-- A refusal changes nothing: "with nothing applied".
pub move_unchanged : (b l : List ℕ) (old new : ℕ) (o : ℕ × List ℕ) → Moved b l old new o → 0 < o.0 → o.1 ≡ b
unfolding Moved move_needs block_needs day_needs appointment_needs
move_unchanged b l old new =
    first_cases (λ o. 0 < o.0 → o.1 ≡ b) (λ n. 0 < n) (λ n. (n, b)) (Carried b (steps l old new) b) (λ n h k. refl)
    (run_cases (λ _ cs c o. 0 < o.0 → o.1 ≡ b) b (λ cs c n h k. refl) (λ c k. absurd (omega arith)) (λ c cs d e o w q. q) (steps l old new) b)
    (move_needs b l old new) (omega arith)
