-- The anniversary of a date is a later date, if its year is in the range; and what the answers on a term say.
use Prim.Native.Nat.{ℕ, suc, ◌+◌, ◌-◌, ◌*◌, ◌≤◌, ◌<◌, ◌/◌, ◌%◌}
use mathlib.Core.Path.{◌≡◌, ap}
use mathlib.Core.Logic.{inl, inr, ⊎_elim}
use native.Mathlib.Omega.{arith}
use native.Mathlib.Numerals.{add-one}
use Rattle.std.specs.Prelude.{Ok, Err}
use Rattle.index.specs.declared.refusals.Refusal.{Refusal}
use Rattle.index.proofs.laws.Range.{lt_or_le}
use Rattle.index.proofs.laws.Refusing.{some}
use Rattle.calendar.specs.declared.Date.{Date}
use Rattle.calendar.specs.declared.Span.{Span}
use Rattle.calendar.specs.Dates.{month_days, IsDate, day_number}
use Rattle.calendar.specs.Terms.{in_month, anniversary, IsTerm}
use Rattle.calendar.specs.Calls.{AnniversaryOf, SpanOf, DateAnswers, SpanAnswers}
use Rattle.calendar.proofs.laws.Years.{each_month}
use Rattle.calendar.proofs.laws.Dates.{within, rising}

pub ends : (d : Date) (k : ℕ) → IsDate d → (12 * d.year + (d.month - 1) + k) / 12 ≤ 2399 → IsDate (anniversary d k)
unfolding anniversary in_month
ends d k i h =
    let n = 12 * d.year + (d.month - 1) + k in
    let e : month_days (n / 12) (n % 12 + 1) ≡ month_days (n / 12) (suc (n % 12)) = ap (month_days (n / 12)) (add-one (n % 12)) in
    let m = each_month (n / 12) (n % 12) (omega arith) in
    record {
      not_before = omega (arith, i.not_before);
      not_after = h;
      first_day = omega (arith, i.first_day);
      last_day = omega arith;
    }

-- A term has a first day: the anniversary comes after it.
pub later : (d : Date) (k : ℕ) → IsTerm d k → day_number d < day_number (anniversary d k)
unfolding anniversary in_month
later d k t =
    let w = within d t.begins in
    let n = 12 * d.year + (d.month - 1) + k in
    let h : 1 ≤ k = t.least in
    rising d (anniversary d k) t.begins t.ends
    (⊎_elim inl (λ g. inr (omega arith, inl (omega arith))) (lt_or_le d.year (n / 12)))

-- ---- what the answers say: there is a term, or none

module _ (first : Date) (term : ℕ) where
  pub no_term : (e : Refusal) → DateAnswers (AnniversaryOf first term) (Err e) → IsTerm first term → ⊥
  unfolding DateAnswers AnniversaryOf
  no_term e (inl r) t = r.0 t
  no_term e (inr r) t = absurd (some e r.1.0)

  pub is_term : (d : Date) → DateAnswers (AnniversaryOf first term) (Ok d) → IsTerm first term × (d ≡ anniversary first term)
  unfolding DateAnswers AnniversaryOf
  is_term d (inl r) = absurd (omega (arith, ap (λ (o : ℕ × Date). o.0) r.1))
  is_term d (inr r) = (r.0, r.1.1)

  -- The same of its days.
  pub no_span : (e : Refusal) → SpanAnswers (SpanOf first term) (Err e) → IsTerm first term → ⊥
  unfolding SpanAnswers SpanOf
  no_span e (inl r) t = r.0 t
  no_span e (inr r) t = absurd (some e r.1.0)

  pub is_span : (s : Span) → SpanAnswers (SpanOf first term) (Ok s)
      → IsTerm first term × (s.from ≡ day_number first) × (s.to ≡ day_number (anniversary first term))
  unfolding SpanAnswers SpanOf
  is_span s (inl r) = absurd (omega (arith, ap (λ (o : ℕ × (ℕ × ℕ)). o.0) r.1))
  is_span s (inr r) = (r.0, r.1.1.0, r.1.1.1)
