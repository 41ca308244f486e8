-- M-105: "Dates and day numbers agree each way", and a later date has a higher number.
use Prim.Native.Nat.{ℕ, ◌<◌, ◌≤◌}
use mathlib.Core.Path.{◌≡◌, refl, sym, ap}
use mathlib.Core.Logic.{◌↔◌, inl, inr, ⊎_elim}
use native.Mathlib.Omega.{arith}
use Rattle.calendar.specs.declared.Date.{Date}
use Rattle.calendar.specs.Dates.{date, IsDate, day_number, IsDay}
use Rattle.calendar.specs.Calls.{DayOf, DateOf, EachWay}
use Rattle.calendar.proofs.laws.Years.{month_most}
use Rattle.calendar.proofs.laws.Dates.{Earlier, within, order, rising, day_most, in_range, each_day}

pub each_way : EachWay
unfolding DayOf DateOf
each_way year month day n = (to, from)
  where
    to : DayOf year month day (0, n) → DateOf n (0, date year month day)
    to (inl r) = absurd (omega (arith, ap (λ (a : ℕ × ℕ). a.0) r.1))
    to (inr r) =
        let d = date year month day in
        let e : day_number d ≡ n = sym r.1.1 in
        inr (rw e at (in_range d r.0), (refl, (r.0, e)))

    from : DateOf n (0, date year month day) → DayOf year month day (0, n)
    from (inl r) = absurd (omega (arith, ap (λ (a : ℕ × Date). a.0) r.1))
    from (inr r) = inr (r.1.1.0, (refl, sym r.1.1.1))

-- Each day of the range has a date.
pub each_day_dated : (n : ℕ) → IsDay n → (d : Date) × DateOf n (0, d)
unfolding DateOf
each_day_dated n h = let r = each_day n h in (r.0, inr (h, (refl, (r.1, r.2))))

-- Earlier dates have smaller numbers, and only they.
pub strictly : (d e : Date) → IsDate d → IsDate e → Earlier d e ↔ (day_number d < day_number e)
strictly d e i j = (
  rising d e i j,
  λ l. ⊎_elim (λ b. b) (⊎_elim (λ a. absurd (omega (arith, rising e d j i a))) (λ q. absurd (omega (arith, ap day_number q)))) (order d e),
)

-- What an accepted answer gives is in the range.
pub day_bound : (year month day n : ℕ) → DayOf year month day (0, n) → n ≤ 157053
unfolding DateOf
day_bound year month day n p = go ((each_way year month day n).0 p)
  where
    go : DateOf n (0, date year month day) → n ≤ 157053
    go (inl r) = absurd (omega (arith, ap (λ (o : ℕ × Date). o.0) r.1))
    go (inr r) = day_most n r.0

pub date_bound : (n : ℕ) (d : Date) → DateOf n (0, d) → (d.day ≤ 31) × (d.month ≤ 12) × (d.year ≤ 2399)
unfolding DateOf
date_bound n d (inl r) = absurd (omega (arith, ap (λ (o : ℕ × Date). o.0) r.1))
date_bound n d (inr r) =
    let i = r.1.1.0 in
    (omega (arith, i.last_day, month_most d.year d.month), (within d i).last_month, i.not_after)
