-- Tests of a date, a day and a term that compute and are right either way.
use Prim.Native.Nat.{ℕ}
use mathlib.Core.Bool.{Bool, ◌&&◌}
use lib.Dec.{leb}
use Rattle.index.specs.work.Checks.{Says}
use Rattle.index.proofs.laws.Answer.{says_same}
use Rattle.index.proofs.laws.Deciding.{most_says, says_and}
use Rattle.calendar.specs.declared.Date.{Date}
use Rattle.calendar.specs.Dates.{first_year, last_year, month_days, IsDate, IsDay}
use Rattle.calendar.specs.Terms.{anniversary, IsTerm}
use Rattle.calendar.proofs.laws.Dates.{is_day, day_most}

abbrev pub date_test : Date → Bool
date_test d = leb first_year d.year && (leb d.year last_year && (leb 1 d.day && leb d.day (month_days d.year d.month)))

pub date_says : (d : Date) → Says (IsDate d) (date_test d)
date_says d =
    says_same (date_test d)
    (λ p. record { not_before = p.0; not_after = p.1.0; first_day = p.1.1.0; last_day = p.1.1.1 })
    (λ i. (i.not_before, (i.not_after, (i.first_day, i.last_day))))
    (says_and _ _ (leb first_year d.year) _ (most_says first_year d.year)
    (says_and _ _ (leb d.year last_year) _ (most_says d.year last_year)
    (says_and _ _ (leb 1 d.day) _ (most_says 1 d.day) (most_says d.day (month_days d.year d.month)))))

abbrev pub term_test : Date → ℕ → Bool
term_test first term = date_test first && (leb 1 term && (leb term 120 && date_test (anniversary first term)))

pub term_says : (first : Date) (term : ℕ) → Says (IsTerm first term) (term_test first term)
term_says first term =
    says_same (term_test first term) (λ p. record { begins = p.0; least = p.1.0; most = p.1.1.0; ends = p.1.1.1 })
    (λ t. (t.begins, (t.least, (t.most, t.ends))))
    (says_and _ _ (date_test first) _ (date_says first)
    (says_and _ _ (leb 1 term) _ (most_says 1 term) (says_and _ _ (leb term 120) _ (most_says term 120) (date_says (anniversary first term)))))

pub day_says : (n : ℕ) → Says (IsDay n) (leb n 157053)
day_says n = says_same (leb n 157053) (is_day n) (day_most n) (most_says n 157053)
