-- M-105: "on the same day of the month, or on the month's last day if it has no such day": ends of months, and of the range.
use Prim.Native.Nat.{ℕ, ◌+◌, ◌-◌, ◌*◌, ◌/◌, ◌%◌, min}
use mathlib.Core.Path.{◌≡◌, ap, ◌∙◌}
use native.Mathlib.Omega.{arith}
use Rattle.calendar.specs.declared.Date.{Date}
use Rattle.calendar.specs.Dates.{date, leap_day, months, month_days}
use Rattle.calendar.specs.Terms.{in_month, anniversary, IsTerm}
use Rattle.calendar.proofs.laws.Years.{leap_one}

-- A month after 31 January is the last day of February, two months after it is 31 March, in any year.
lands : (n y m day : ℕ) → n / 12 ≡ y → n % 12 + 1 ≡ m → in_month n day ≡ date y m (min day (month_days y m))
unfolding in_month
lands n y m day p q = rw (p, q)

pub to_february : (y : ℕ) → anniversary (date y 1 31) 1 ≡ date y 2 (28 + leap_day y)
unfolding anniversary month_days months
to_february y =
    lands (12 * y + (1 - 1) + 1) y 2 31 (omega arith) (omega arith) ∙ ap (date y 2) (omega (arith, leap_one y))

pub to_march : (y : ℕ) → anniversary (date y 1 31) 2 ≡ date y 3 31
unfolding anniversary month_days months
to_march y = lands (12 * y + (1 - 1) + 2) y 3 31 (omega arith) (omega arith)

-- No term has its anniversary on 1 January 2400.
pub not_2400 : (first : Date) (term : ℕ) → IsTerm first term → anniversary first term ≡ date 2400 1 1 → ⊥
not_2400 first term t e = omega (arith, t.ends.not_after, ap (λ (d : Date). d.year) e)
