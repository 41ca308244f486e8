-- Each call of the calendar has one answer.
use Prim.Native.Nat.{ℕ}
use mathlib.Core.Path.{◌≡◌, sym, ◌∙◌}
use mathlib.Core.List.{[], ◌∷◌}
use Rattle.std.specs.Prelude.{Result}
use Rattle.index.specs.declared.refusals.Refusal.{Refusal}
use Rattle.index.proofs.laws.OneFirst.{one_first}
use Rattle.index.proofs.laws.OneResult.{answer_once}
use Rattle.calendar.specs.declared.Date.{Date}
use Rattle.calendar.specs.declared.Span.{Span}
use Rattle.calendar.specs.Dates.{date, IsDate, day_number, IsDay}
use Rattle.calendar.specs.Terms.{anniversary, IsTerm}
use Rattle.calendar.specs.Calls.{Twelve, DayOf, DateOf, AnniversaryOf, SpanOf, DayAnswers, DateAnswers, SpanAnswers}
use Rattle.calendar.proofs.laws.Dates.{one_date}

one_twelve : {O : Type 0} (P : Type 0) (none : O) (accepted : O → Type 0) → ((a a' : O) → accepted a → accepted a' → a ≡ a')
    → (o o' : ℕ × O) → Twelve P none accepted o → Twelve P none accepted o' → o ≡ o'
one_twelve P none accepted one =
    one_first (λ n. (n, none)) ((12, P) ∷ []) (λ o. (o.0 ≡ 0) × accepted o.1)
    (λ o o' p q.
    let n : o.0 ≡ o'.0 = p.0 ∙ sym q.0 in
    let v : o.1 ≡ o'.1 = one o.1 o'.1 p.1 q.1 in
    λ i. (n i, v i))

pub one_day_of : (year month day : ℕ) (o o' : ℕ × ℕ) → DayOf year month day o → DayOf year month day o' → o ≡ o'
unfolding DayOf
one_day_of year month day =
    one_twelve (IsDate (date year month day)) 0 (λ n. n ≡ day_number (date year month day)) (λ a a' p q. p ∙ sym q)

pub one_date_of : (n : ℕ) (o o' : ℕ × Date) → DateOf n o → DateOf n o' → o ≡ o'
unfolding DateOf
one_date_of n =
    one_twelve (IsDay n) (date 0 0 0) (λ d. IsDate d × (day_number d ≡ n))
    (λ d e p q. one_date d e p.0 q.0 (p.1 ∙ sym q.1))

pub one_anniversary_of : (first : Date) (term : ℕ) (o o' : ℕ × Date) → AnniversaryOf first term o → AnniversaryOf first term o' → o ≡ o'
unfolding AnniversaryOf
one_anniversary_of first term =
    one_twelve (IsTerm first term) (date 0 0 0) (λ d. d ≡ anniversary first term) (λ a a' p q. p ∙ sym q)

pub one_span_of : (first : Date) (term : ℕ) (o o' : ℕ × (ℕ × ℕ)) → SpanOf first term o → SpanOf first term o' → o ≡ o'
unfolding SpanOf
one_span_of first term =
    one_twelve (IsTerm first term) (0, 0) (λ s. (s.0 ≡ day_number first) × (s.1 ≡ day_number (anniversary first term)))
    (λ s s' p q.
    let from : s.0 ≡ s'.0 = p.0 ∙ sym q.0 in
    let to : s.1 ≡ s'.1 = p.1 ∙ sym q.1 in
    λ i. (from i, to i))

-- ---- so have the answers of the code

module _ (Outcome : ℕ × ℕ → Type 0) (one : (o o' : ℕ × ℕ) → Outcome o → Outcome o' → o ≡ o') where
  pub one_day : (r s : Result ℕ Refusal) → DayAnswers Outcome r → DayAnswers Outcome s → r ≡ s
  unfolding DayAnswers
  one_day = answer_once (λ n. n) 0 (λ n m e. e) Outcome one

module _ (Outcome : ℕ × Date → Type 0) (one : (o o' : ℕ × Date) → Outcome o → Outcome o' → o ≡ o') where
  pub one_dated : (r s : Result Date Refusal) → DateAnswers Outcome r → DateAnswers Outcome s → r ≡ s
  unfolding DateAnswers
  one_dated = answer_once (λ d. d) (date 0 0 0) (λ d e q. q) Outcome one

module _ (Outcome : ℕ × (ℕ × ℕ) → Type 0) (one : (o o' : ℕ × (ℕ × ℕ)) → Outcome o → Outcome o' → o ≡ o') where
  pub one_span : (r s : Result Span Refusal) → SpanAnswers Outcome r → SpanAnswers Outcome s → r ≡ s
  unfolding SpanAnswers
  one_span = answer_once (λ s. (s.from, s.to)) (0, 0) (λ s t q. λ i. record { from = (q i).0; to = (q i).1 }) Outcome one
