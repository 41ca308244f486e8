-- The days of a term, or 12.
use Prim.Native.Nat.{ℕ}
use mathlib.Core.Path.{◌≡◌, subst, refl, sym, ap, ◌∙◌}
use mathlib.Core.Logic.{inl, inr}
use Rattle.std.proofs.lemmas.Result.{err_from_is_err_and}
use Rattle.std.specs.Prelude.{Err}
use Rattle.index.specs.declared.refusals.Refusal.{Refusal}
use Rattle.index.specs.Numbers.{number}
use Rattle.index.proofs.laws.Refusing.{some}
use Rattle.calendar.specs.declared.Date.{Date}
use Rattle.calendar.specs.Dates.{IsDate, day_number}
use Rattle.calendar.specs.Terms.{IsTerm}
use Rattle.calendar.specs.Calls.{AnniversaryOf, SpanOf, DateAnswers, SpanAnswers}
use Rattle.calendar.proofs.laws.Terms.{no_term, is_term}
use Rattle.calendar.proofs.terms.span_of.Goals as goal

-- There is no such term, and so it has no days.
refused : (first : Date) (term : ℕ) (e : Refusal) → (IsTerm first term → ⊥) → number e ≡ 12 → SpanAnswers (SpanOf first term) (Err e)
unfolding SpanOf SpanAnswers
refused first term e none q = inl (none, λ i. (q i, (0, 0)))

twelve : (first : Date) (term : ℕ) (e : Refusal) → DateAnswers (AnniversaryOf first term) (Err e) → number e ≡ 12
unfolding AnniversaryOf DateAnswers
twelve first term e (inl p) = ap (λ (o : ℕ × Date). o.0) p.1
twelve first term e (inr p) = absurd (some e p.1.0)

pub returns-in_err-end : goal.returns-in_err-end
returns-in_err-end c =
    let r = err_from_is_err_and c.from_residual.result c.from_residual.ensures.1 in
    rw (r.1, r.2) (refused _ _ _ (no_term c.args.first c.args.months _ c.in_err-end.ensures) (twelve c.args.first c.args.months _ c.in_err-end.ensures))

pub number_of-requires : goal.number_of-requires
number_of-requires c = (is_term c.args.first c.args.months c.in_ok-end.end c.in_ok-end.ensures).0.begins

pub number_of-requires-2 : goal.number_of-requires-2
number_of-requires-2 c =
    let t = is_term c.args.first c.args.months c.in_ok-end.end c.in_ok-end.ensures in
    subst IsDate (sym t.1) t.0.ends

pub returns : goal.returns
unfolding SpanOf SpanAnswers
returns c =
    let t = is_term c.args.first c.args.months c.in_ok-end.end c.in_ok-end.ensures in
    inr (t.0, (refl, (c.number_of.ensures, c.number_of-2.ensures ∙ ap day_number t.1)))
