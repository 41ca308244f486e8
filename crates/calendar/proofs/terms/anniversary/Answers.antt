-- The anniversary, or 12.
use mathlib.Core.Path.{refl}
use mathlib.Core.Logic.{inl, inr}
use Prim.Native.Nat.{◌≤◌}
use Rattle.std.proofs.Common.{arith, rules}
use Rattle.std.proofs.lemmas.Grind.{common_steps}
use Rattle.index.proofs.laws.Answer.{yes_is, no_is}
use Rattle.calendar.specs.Terms.{anniversary, in_month}
use Rattle.calendar.specs.Calls.{AnniversaryOf, DateAnswers}
use Rattle.calendar.proofs.laws.Dates.{within}
use Rattle.calendar.proofs.laws.Terms.{ends}
use Rattle.calendar.proofs.terms.anniversary.Goals as goal
use Rattle.calendar.proofs.terms.anniversary.Goals.{then-not-is_date-via-then-not-is_date, then-not-is_date-via-else-not-is_date+then-not-contains}

pub returns-then-not-is_date : goal.returns-then-not-is_date
unfolding AnniversaryOf DateAnswers
returns-then-not-is_date c =
    inl (
      (λ t. elim c.then-not-is_date.branch [
        | then-not-is_date-via-then-not-is_date w ↦ no_is w.if-not-is_date.true t.begins c.is_date.ensures
        | then-not-is_date-via-else-not-is_date+then-not-contains w ↦ let a : 1 ≤ c.args.months = t.least in let z : c.args.months ≤ 120 = t.most in grind (arith, common_steps)
      ]),
      refl,
    )

pub overflow_sub-n : goal.overflow_sub-n
overflow_sub-n c = (within c.args.first (yes_is c.if-not-is_date.false c.is_date.ensures)).first_month

pub overflow_add-n : goal.overflow_add-n
overflow_add-n c =
    let i = yes_is c.if-not-is_date.false c.is_date.ensures in
    omega (arith, i.not_after, (within c.args.first i).last_month)

pub overflow_add-n-2 : goal.overflow_add-n-2
overflow_add-n-2 c =
    let i = yes_is c.if-not-is_date.false c.is_date.ensures in
    let most : c.args.months ≤ 120 = search rules in
    omega (arith, i.not_after, (within c.args.first i).last_month, most)

pub returns-then-year-gt-LAST_YEAR : goal.returns-then-year-gt-LAST_YEAR
unfolding AnniversaryOf DateAnswers anniversary in_month
returns-then-year-gt-LAST_YEAR c = inl (λ t. omega (arith, t.ends.not_after), refl)

pub returns : goal.returns
unfolding AnniversaryOf DateAnswers anniversary in_month
returns c =
    let i = yes_is c.if-not-is_date.false c.is_date.ensures in
    let least : 1 ≤ c.args.months = search rules in
    let most : c.args.months ≤ 120 = search rules in
    inr (record { begins = i; least = least; most = most; ends = ends c.args.first c.args.months i (omega arith) }, (refl, search rules))
