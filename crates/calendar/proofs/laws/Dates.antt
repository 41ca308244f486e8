-- A date has one day number, later dates have higher ones, and each day up to the last has a date.
use Prim.Native.Nat.{ℕ, zero, suc, ◌+◌, ◌-◌, ◌≤◌, ◌<◌}
use mathlib.Core.Path.{◌≡◌, refl, ap, ap₂, sym}
use mathlib.Core.Logic.{◌⊎◌, inl, inr, ⊎_elim}
use native.Mathlib.Omega.{arith}
use lib.ListN.{take}
use Rattle.index.proofs.laws.Range.{lt_or_le}
use Rattle.calendar.specs.declared.Date.{Date}
use Rattle.calendar.specs.Dates.{date, leap_day, months, month_days, sum, years_days, IsDate, day_number, IsDay}
use Rattle.calendar.proofs.laws.Years.{sum_step, is_month, month_end, months_grow, in_year, year_end, years_grow, all_days}

-- Date d comes before date e.
abbrev pub Earlier : Date → Date → Type 0
Earlier d e =
    (d.year < e.year)
    ⊎ ((d.year ≡ e.year) × ((d.month < e.month) ⊎ ((d.month ≡ e.month) × (d.day < e.day))))

-- A date's day lies in its month, its month in its year, and its year in the range.
pub record Within (d : Date) : Type 0 where
  pub first_month : 1 ≤ d.month
  pub last_month : d.month ≤ 12
  pub from : years_days (d.year - 1970) + sum (take (d.month - 1) (months d.year)) ≤ day_number d
  pub to : day_number d < years_days (d.year - 1970) + sum (take d.month (months d.year))
  pub this_year : years_days (d.year - 1970) ≤ day_number d
  pub next_year : day_number d < years_days (suc (d.year - 1970))

pub within : (d : Date) → IsDate d → Within d
unfolding day_number
within d i =
    let m = is_month d.year d.month (omega arith) in
    let e = month_end d.year d.month m.0 in
    let f = in_year d.year d.month m.1 in
    let g = year_end d.year i.not_before in
    record {
      first_month = m.0;
      last_month = m.1;
      from = omega arith;
      to = omega arith;
      this_year = omega arith;
      next_year = omega arith;
    }

pub rising : (d e : Date) → IsDate d → IsDate e → Earlier d e → day_number d < day_number e
unfolding day_number
rising d e i j = ⊎_elim later_year (λ p. ⊎_elim (later_month p.0) (λ q. later_day p.0 q.0 q.1) p.1)
  where
    w : Within d
    w = within d i

    v : Within e
    v = within e j

    years : d.year ≡ e.year → years_days (d.year - 1970) ≡ years_days (e.year - 1970)
    years p = ap (λ y. years_days (y - 1970)) p

    later_year : d.year < e.year → day_number d < day_number e
    later_year l = omega (arith, w.next_year, v.this_year, years_grow (suc (d.year - 1970)) (e.year - 1970) (omega arith))

    later_month : d.year ≡ e.year → d.month < e.month → day_number d < day_number e
    later_month p l =
        omega (
          arith,
          w.to,
          v.from,
          years p,
          ap (λ y. sum (take d.month (months y))) p,
          months_grow e.year d.month (e.month - 1) (omega arith),
        )

    later_day : d.year ≡ e.year → d.month ≡ e.month → d.day < e.day → day_number d < day_number e
    later_day p q l =
        omega (arith, i.first_day, years p, ap₂ (λ y m. sum (take (m - 1) (months y))) p q)

-- Of two dates one is earlier, or they are the same.
pub order : (d e : Date) → Earlier d e ⊎ (Earlier e d ⊎ (d ≡ e))
order d e = by d.year e.year (λ l. inl (inl l)) (λ l. inr (inl (inl l)))
    (λ p. by d.month e.month (λ l. inl (inr (p, inl l))) (λ l. inr (inl (inr (sym p, inl l))))
    (λ q. by d.day e.day (λ l. inl (inr (p, inr (q, l)))) (λ l. inr (inl (inr (sym p, inr (sym q, l)))))
    (λ r. inr (inr (λ x. record { year = p x; month = q x; day = r x })))))
  where
    by : {A : Type 0} (a b : ℕ) → (a < b → A) → (b < a → A) → (a ≡ b → A) → A
    by a b f g h = ⊎_elim f (λ l. ⊎_elim g (λ k. h (omega arith)) (lt_or_le b a)) (lt_or_le a b)

pub one_date : (d e : Date) → IsDate d → IsDate e → day_number d ≡ day_number e → d ≡ e
one_date d e i j p =
    ⊎_elim (λ l. absurd (omega (arith, rising d e i j l)))
    (⊎_elim (λ l. absurd (omega (arith, rising e d j i l))) (λ q. q))
    (order d e)

-- ---- the range

pub last_day : day_number (date 2399 12 31) ≡ 157053
unfolding day_number years_days months sum leap_day
last_day = refl

pub is_day : (n : ℕ) → n ≤ 157053 → IsDay n
unfolding IsDay
is_day n h = omega (arith, last_day)

pub day_most : (n : ℕ) → IsDay n → n ≤ 157053
unfolding IsDay
day_most n h = omega (arith, last_day)

pub in_range : (d : Date) → IsDate d → IsDay (day_number d)
in_range d i =
    let w = within d i in
    is_day (day_number d) (omega (arith, years_grow (suc (d.year - 1970)) 430 (omega (arith, i.not_before, i.not_after)), all_days))

-- ---- the date of a day

-- The date in year 1970 + y and month i + 1, of day n.
abbrev pub date_at : ℕ → ℕ → ℕ → Date
date_at y i n = date (1970 + y) (i + 1) (n - years_days y - sum (take i (months (1970 + y))) + 1)

pub made : (y i n : ℕ) → y < 430 → years_days y + sum (take i (months (1970 + y))) ≤ n
    → n < years_days y + sum (take (suc i) (months (1970 + y))) → IsDate (date_at y i n) × (day_number (date_at y i n) ≡ n)
unfolding day_number month_days
made y i n h a b =
    let e : i + 1 ≡ suc i = omega arith in
    let f : i + 1 - 1 ≡ i = omega arith in
    let g : 1970 + y - 1970 ≡ y = omega arith in (
      record {
        not_before = omega arith;
        not_after = omega arith;
        first_day = omega arith;
        last_day = rw e (omega (arith, sum_step (months (1970 + y)) i));
      },
      rw (f, g) (omega arith),
    )

-- Where a function that does not fall passes n.
lies : (f : ℕ → ℕ) (n k : ℕ) → f 0 ≤ n → n < f k → (i : ℕ) × (i < k) × (f i ≤ n) × (n < f (suc i))
lies f n zero a b = absurd (omega arith)
lies f n (suc k) a b =
    ⊎_elim (λ l. let r = lies f n k a l in (r.0, omega (arith, r.1), r.2, r.3)) (λ l. (k, omega arith, l, b)) (lt_or_le n (f k))

pub each_day : (n : ℕ) → IsDay n → (d : Date) × IsDate d × (day_number d ≡ n)
each_day n h =
    let y = lies years_days n 430 (unfold years_days in omega arith) (omega (arith, all_days, day_most n h)) in
    let P : ℕ → ℕ = λ i. sum (take i (months (1970 + y.0))) in
    let e : years_days (suc y.0) ≡ years_days y.0 + P 12 = unfold years_days months in refl in
    let m = lies P (n - years_days y.0) 12 (unfold sum in omega arith) (omega arith) in
    let r = made y.0 m.0 n y.1 (omega arith) (omega arith) in
    (date_at y.0 m.0 n, r.0, r.1)

-- One more step of f is over on day n: then it is not the last, and no further one is.
pub one_more : (f : ℕ → ℕ) (k n q m : ℕ) → ((i j : ℕ) → i ≤ j → f i ≤ f j) → n < f k → f (suc q) ≤ n → n < m
    → (suc q < k → m ≤ f (suc (suc q))) → (suc q < k) × (f (suc q) ≤ n) × (n < f (suc (suc q)))
one_more f k n q m up a b c d =
    ⊎_elim (λ l. (l, b, omega (arith, d l))) (λ g. absurd (omega (arith, up k (suc q) g))) (lt_or_le (suc q) k)
