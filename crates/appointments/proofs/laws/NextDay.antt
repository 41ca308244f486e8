-- The first day on which an appointment, or a list of them, stands otherwise than on a day.
use Prim.Native.Nat.{ℕ, ◌+◌, ◌<◌, ◌≤◌}
use mathlib.Core.Path.{◌≡◌, refl, sym, subst, ◌∙◌}
use mathlib.Core.Bool.{Bool, true, false, not, ◌&&◌}
use mathlib.Core.List.{List}
use mathlib.Core.Logic.{◌⊎◌, inl, inr, ⊎_elim}
use native.Mathlib.Omega.{arith}
use borrow.Author.Tests.{eq-eqb, ne_eqb, le-leb, lt-ltb, lt-leb, le-ltb}
use lib.Dec.{leb, ltb}
use Rattle.std.specs.Prelude.{min, Option, Some, None}
use Rattle.std.proofs.lemmas.Bool.Decides.{nat_tests}
use Rattle.index.proofs.laws.Range.{lt_or_le}
use Rattle.index.proofs.laws.message.Halves.{differ}
use Rattle.calendar.specs.Dates.{IsDay, day_number}
use Rattle.calendar.specs.Terms.{anniversary, between, stands, IsTerm}
use Rattle.calendar.proofs.laws.Dates.{in_range}
use Rattle.calendar.proofs.laws.Terms.{later}
use Rattle.appointments.specs.Appointment.{Appointment, appointment_at, stands_on, only_on}
use Rattle.appointments.specs.Asking.{Differs, IsFirst}
use Rattle.appointments.specs.work.Listed.{sooner, earlier, FirstDay}

-- ---- the first day of which something holds

-- The sooner of two days is one of them, and no later than either that is one.
record Sooner (a b n : ℕ) : Type 0 where
  one : (n ≡ a) ⊎ (n ≡ b)
  first : 0 < a → (0 < n) × (n ≤ a)
  second : 0 < b → (0 < n) × (n ≤ b)

is_sooner : (a b : ℕ) → Sooner a b (sooner a b)
unfolding sooner
is_sooner a b =
    ⊎_elim
    (λ p.
    ⊎_elim
    (λ q.
    ⊎_elim
    (λ l. rw (ne_eqb a 0 (omega arith), ne_eqb b 0 (omega arith), lt-ltb a b l)
    (record { one = inl refl; first = λ h. omega arith; second = λ h. omega arith }))
    (λ l. rw (ne_eqb a 0 (omega arith), ne_eqb b 0 (omega arith), le-ltb a b l)
    (record { one = inr refl; first = λ h. omega arith; second = λ h. omega arith }))
    (lt_or_le a b))
    (λ q. rw (ne_eqb a 0 (omega arith), eq-eqb b 0 (omega arith))
    (record { one = inl refl; first = λ h. omega arith; second = λ h. omega arith }))
    (lt_or_le 0 b))
    (λ p. rw (eq-eqb a 0 (omega arith)) (record { one = inr refl; first = λ h. omega arith; second = λ h. omega arith }))
    (lt_or_le 0 a)

-- Where it is one of which P holds, and P is a part of R.
there : {P R : ℕ → Type 0} (day a n : ℕ) → ((m : ℕ) → P m → R m) → n ≡ a → (a ≡ 0) ⊎ ((day < a) × IsDay a × P a)
    → (n ≡ 0) ⊎ ((day < n) × IsDay n × R n)
there day a n part e (inl z) = inl (e ∙ z)
there {R = R} day a n part e (inr p) = inr (omega (arith, p.0), subst IsDay (sym e) p.1, subst R (sym e) (part a p.2))

-- Of either of two, it is the sooner of the two days.
pub first_sooner : {P Q R : ℕ → Type 0} (day : ℕ) → ((m : ℕ) → P m → R m) → ((m : ℕ) → Q m → R m) → ((m : ℕ) → R m → P m ⊎ Q m) → (a b : ℕ)
    → IsFirst P day a → IsFirst Q day b → IsFirst R day (sooner a b)
first_sooner day left right apart a b p q =
    let s = is_sooner a b in
    record {
      there = ⊎_elim (λ e. there day a (sooner a b) left e p.there) (λ e. there day b (sooner a b) right e q.there) s.one;
      first = λ m l i r.
          ⊎_elim (λ h. let f = p.first m l i h in omega (arith, f.1, s.first f.0))
          (λ h. let f = q.first m l i h in omega (arith, f.1, s.second f.0)) (apart m r);
    }

pub first_none : {P : ℕ → Type 0} (day : ℕ) → ((m : ℕ) → P m → ⊥) → IsFirst P day 0
first_none day none = record { there = inl refl; first = λ m l i p. absurd (none m p) }

-- The earlier of two days, where there are two, is the sooner.
min_sooner : (a b : ℕ) → 0 < a → 0 < b → min a b ≡ sooner a b
unfolding sooner
min_sooner a b p q = grind (arith, nat_tests)

no_sooner : (a : ℕ) → 0 < a → sooner a 0 ≡ a
unfolding sooner
no_sooner a p = rw (ne_eqb a 0 (omega arith))

pub first_earlier : {P Q R : ℕ → Type 0} (day : ℕ) → ((m : ℕ) → P m → R m) → ((m : ℕ) → Q m → R m) → ((m : ℕ) → R m → P m ⊎ Q m)
    → (a b : Option ℕ) → FirstDay P day a → FirstDay Q day b → FirstDay R day (earlier a b)
unfolding sooner
first_earlier day left right apart (Some a) (Some b) p q =
    (omega (arith, p.0, q.0), rw (min_sooner a b p.0 q.0) (first_sooner day left right apart a b p.1 q.1))
first_earlier {R = R} day left right apart (Some a) None p q =
    (p.0, subst (IsFirst R day) (no_sooner a p.0) (first_sooner day left right apart a 0 p.1 q))
first_earlier day left right apart None (Some b) p q = (q.0, first_sooner day left right apart 0 b p q.1)
first_earlier day left right apart None None p q = first_sooner day left right apart 0 0 p q

-- ---- of one appointment

no_only : (s t : Bool) → s ≡ t → s && not t ≡ true → ⊥
no_only true true e q = differ (sym q)
no_only true false e q = differ e
no_only false t e q = differ (sym q)

module _ (a : Appointment) (t : IsTerm a.first a.term) where
  abbrev from : ℕ
  from = day_number a.first

  abbrev to : ℕ
  to = day_number (anniversary a.first a.term)

  on : (n : ℕ) → from ≤ n → n < to → stands_on n a ≡ true
  unfolding stands_on stands between
  on n h l = rw (le-leb from n h, lt-ltb n to l)

  before : (n : ℕ) → n < from → stands_on n a ≡ false
  unfolding stands_on stands between
  before n h = rw (lt-leb from n h)

  pub over : (n : ℕ) → to ≤ n → stands_on n a ≡ false
  unfolding stands_on stands between
  over n h = go (leb from n)
    where
      go : (s : Bool) → s && ltb n to ≡ false
      go true = le-ltb n to h
      go false = refl

  -- Where it stands on both days or on neither, it does not differ.
  same : (day n : ℕ) (s : Bool) → stands_on day a ≡ s → stands_on n a ≡ s → Differs a day n → ⊥
  unfolding only_on
  same day n s p q =
      ⊎_elim (no_only (stands_on day a) (stands_on n a) (p ∙ sym q)) (no_only (stands_on n a) (stands_on day a) (q ∙ sym p))

  pub first_from : (day : ℕ) → day < from → IsFirst (Differs a day) day from
  unfolding only_on
  first_from day h =
      record {
        there = inr (h, in_range a.first t.begins, inr (rw (on from (omega arith) (later a.first a.term t), before day h)));
        first = λ m l i d.
            ⊎_elim (λ k. absurd (same day m false (before day h) (before m k) d)) (λ k. (omega arith, k)) (lt_or_le m from);
      }

  pub first_to : (day : ℕ) → from ≤ day → day < to → IsFirst (Differs a day) day to
  unfolding only_on
  first_to day g h =
      record {
        there = inr (h, in_range (anniversary a.first a.term) t.ends, inl (rw (on day g h, over to (omega arith))));
        first = λ m l i d.
            ⊎_elim (λ k. absurd (same day m true (on day g h) (on m (omega arith) k) d)) (λ k. (omega arith, k)) (lt_or_le m to);
      }

  pub first_over : (day : ℕ) → to ≤ day → IsFirst (Differs a day) day 0
  first_over day h =
      record { there = inl refl; first = λ m l i d. absurd (same day m false (over day h) (over m (omega arith)) d) }

-- ---- of the first appointments of a list

-- One of the first k stands on one of the two days only.
abbrev pub AnotherOf : List ℕ → ℕ → ℕ → ℕ → Type 0
AnotherOf l k day n = (i : ℕ) × (i < k) × Differs (appointment_at l i) day n

-- Another one differs from a day where one of the first k does, or the next.
apart : (l : List ℕ) (k day m : ℕ) → AnotherOf l (k + 1) day m → AnotherOf l k day m ⊎ Differs (appointment_at l k) day m
apart l k day m d =
    ⊎_elim (λ g. inl (d.0, g, d.2))
    (λ g. let e : d.0 ≡ k = omega (arith, d.1) in inr (subst (λ (j : ℕ). Differs (appointment_at l j) day m) e d.2))
    (lt_or_le d.0 k)

module _ (l : List ℕ) (k day : ℕ) where
  pub another_sooner : (a b : ℕ) → IsFirst (AnotherOf l k day) day a → IsFirst (Differs (appointment_at l k) day) day b
      → IsFirst (AnotherOf l (k + 1) day) day (sooner a b)
  another_sooner = first_sooner day (λ m d. (d.0, omega (arith, d.1), d.2)) (λ m d. (k, omega arith, d)) (apart l k day)

  pub another_more : (a b : Option ℕ) → FirstDay (AnotherOf l k day) day a → FirstDay (Differs (appointment_at l k) day) day b
      → FirstDay (AnotherOf l (k + 1) day) day (earlier a b)
  another_more = first_earlier day (λ m d. (d.0, omega (arith, d.1), d.2)) (λ m d. (k, omega arith, d)) (apart l k day)
