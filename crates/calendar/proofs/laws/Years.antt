-- Years and months laid end to end.
use Prim.Native.Nat.{ℕ, zero, suc, ◌+◌, ◌-◌, ◌*◌, ◌≤◌, ◌<◌, ◌/◌, ◌%◌}
use mathlib.Core.Path.{◌≡◌, refl, ap}
use mathlib.Core.Bool.{Bool, true, false, cond, not, ◌&&◌, ◌||◌}
use mathlib.Core.List.{List, [], ◌∷◌}
use mathlib.Core.Logic.{⊎_elim}
use native.Mathlib.Nat.{eq-or-lt_of_le, le_of_eq}
use native.Mathlib.Omega.{arith}
use borrow.Author.Tests.{eqb-true, leb-true, ne_eqb}
use lib.Dec.{eqb, leb, ltb}
use lib.ListN.{get_or, take, get_or-eq_default}
use Rattle.index.proofs.laws.Range.{lt_or_le}
use Rattle.index.proofs.laws.Tests.{both, all, all_at}
use Rattle.calendar.specs.Dates.{leap_day, months, month_days, sum, years_days}

-- What does not fall at any step does not fall.
grows : (f : ℕ → ℕ) → ((i : ℕ) → f i ≤ f (suc i)) → (i j : ℕ) → i ≤ j → f i ≤ f j
grows f step i zero h = ⊎_elim (λ e. le_of_eq (ap f e)) (λ l. omega arith) (eq-or-lt_of_le h)
grows f step i (suc j) h =
    ⊎_elim (λ e. le_of_eq (ap f e)) (λ l. omega (arith, step j, grows f step i j (omega arith))) (eq-or-lt_of_le h)

-- What a test says that computes to true for each of the first n numbers.
below : (P : ℕ → Bool) (n : ℕ) → all P 0 n ≡ true → (i : ℕ) → i < n → P i ≡ true
below P n e i h = all_at P 0 n e i (omega arith) (omega arith)

-- ---- months

-- One month more.
pub sum_step : (l : List ℕ) (i : ℕ) → sum (take (suc i) l) ≡ sum (take i l) + get_or l i 0
unfolding sum
sum_step [] zero = refl
sum_step [] (suc i) = refl
sum_step (n ∷ l) zero = omega arith
sum_step (n ∷ l) (suc i) = omega (arith, sum_step l i)

pub no_month : (y m : ℕ) → 12 < m → month_days y m ≡ 0
unfolding month_days months
no_month y m h = get_or-eq_default (0 ∷ months y) 0 h

pub no_zeroth : (y m : ℕ) → m < 1 → month_days y m ≡ 0
unfolding month_days
no_zeroth y zero h = refl
no_zeroth y (suc i) h = omega arith

pub is_month : (y m : ℕ) → 1 ≤ month_days y m → (1 ≤ m) × (m ≤ 12)
unfolding month_days
is_month y zero h = omega arith
is_month y (suc i) h = ⊎_elim (λ l. omega (arith, no_month y (suc i) l)) (λ g. omega arith) (lt_or_le 12 (suc i))

-- A month begins where the one before it ends.
pub month_end : (y m : ℕ) → 1 ≤ m → sum (take m (months y)) ≡ sum (take (m - 1) (months y)) + month_days y m
unfolding month_days
month_end y zero h = omega arith
month_end y (suc i) h =
    let e : suc i - 1 ≡ i = omega arith in
    rw e (sum_step (months y) i)

pub months_grow : (y i j : ℕ) → i ≤ j → sum (take i (months y)) ≤ sum (take j (months y))
months_grow y = grows (λ i. sum (take i (months y))) (λ i. omega (arith, sum_step (months y) i))

pub in_year : (y m : ℕ) → m ≤ 12 → sum (take m (months y)) ≤ sum (months y)
unfolding months
in_year y m h = months_grow y m 12 h

-- ---- leap years

pub leap_one : (y : ℕ) → leap_day y ≤ 1
unfolding leap_day
leap_one y = go (eqb (y % 4) 0 && (not (eqb (y % 100) 0) || eqb (y % 400) 0))
  where
    go : (a : Bool) → cond a 1 0 ≤ 1
    go true = omega arith
    go false = omega arith

-- The leap years up to y.
unfoldable pub leaps : ℕ → ℕ
leaps y = y / 4 + y / 400 - y / 100

leap_test : ℕ → Bool
leap_test n = eqb (leap_day (1970 + n) + leaps (1969 + n)) (leaps (1970 + n))

leaps_pass : all leap_test 0 430 ≡ true
unfolding leap_test leap_day leaps
leaps_pass = refl

leap_count : (n : ℕ) → n < 430 → leap_day (1970 + n) + leaps (1969 + n) ≡ leaps (1970 + n)
unfolding leap_test
leap_count n h = eqb-true (leap_day (1970 + n) + leaps (1969 + n)) (leaps (1970 + n)) (below leap_test 430 leaps_pass n h)

-- ---- years

pub year_days : (y : ℕ) → sum (months y) ≡ 365 + leap_day y
unfolding months sum
year_days y = omega arith

pub years : (n : ℕ) → n ≤ 430 → years_days n + 477 ≡ 365 * n + leaps (1969 + n)
unfolding years_days
years zero h = unfold leaps in refl
years (suc n) h =
    let e : leaps (1969 + suc n) ≡ leaps (1970 + n) = ap leaps (omega arith) in
    omega (arith, years n (omega arith), leap_count n h, year_days (1970 + n))

pub year_end : (y : ℕ) → 1970 ≤ y → years_days (suc (y - 1970)) ≡ years_days (y - 1970) + sum (months y)
unfolding years_days
year_end y h =
    let e : 1970 + (y - 1970) ≡ y = omega arith in
    rw e refl

pub years_grow : (i j : ℕ) → i ≤ j → years_days i ≤ years_days j
unfolding years_days
years_grow = grows years_days (λ i. omega arith)

pub all_days : years_days 430 ≡ 157054
unfolding years_days months sum leap_day
all_days = refl

-- n / 366 years are over on day n, and at most one more.
pub years_least : (n : ℕ) → years_days n ≤ 366 * n
unfolding years_days
years_least zero = omega arith
years_least (suc n) = omega (arith, years_least n, year_days (1970 + n), leap_one (1970 + n))

most_test : ℕ → Bool
most_test n = leb (366 * suc n + 477) (365 * suc (suc n) + leaps (1969 + suc (suc n)))

most_pass : all most_test 0 429 ≡ true
unfolding most_test leaps
most_pass = refl

pub years_most : (n : ℕ) → n < 429 → 366 * suc n ≤ years_days (suc (suc n))
unfolding most_test
years_most n h =
    omega (
      arith,
      years (suc (suc n)) (omega arith),
      leb-true (366 * suc n + 477) (365 * suc (suc n) + leaps (1969 + suc (suc n))) (below most_test 429 most_pass n h),
    )

-- ---- the months of a year with l leap days

lengths : ℕ → List ℕ
lengths l = 31 ∷ (28 + l) ∷ 31 ∷ 30 ∷ 31 ∷ 30 ∷ 31 ∷ 31 ∷ 30 ∷ 31 ∷ 30 ∷ 31 ∷ []

-- Of the first i months of a year: their days as the code has them, and how far 31 days a month lead.
pub record Months (l : ℕ) (ms : List ℕ) (i : ℕ) : Type 0 where
  pub told : sum (take i ms) + cond (ltb i 2) 0 2 ≡ (367 * i + 5) / 12 + cond (ltb i 2) 0 l
  pub most : sum (take i ms) ≤ 31 * i
  pub least : 31 * (i - 1) ≤ sum (take i ms)

told_test : ℕ → ℕ → Bool
told_test l i = eqb (sum (take i (lengths l)) + cond (ltb i 2) 0 2) ((367 * i + 5) / 12 + cond (ltb i 2) 0 l)

thirty_one_test : ℕ → ℕ → Bool
thirty_one_test l i = leb (sum (take i (lengths l))) (31 * i) && leb (31 * (i - 1)) (sum (take i (lengths l)))

months_test : ℕ → ℕ → Bool
months_test l i = told_test l i && thirty_one_test l i

months_pass : all (λ l. all (months_test l) 0 13) 0 2 ≡ true
unfolding months_test told_test thirty_one_test lengths sum
months_pass = refl

by_leap : (l i : ℕ) → l < 2 → i < 13 → Months l (lengths l) i
unfolding months_test told_test thirty_one_test
by_leap l i s h =
    let t = both (told_test l i) (thirty_one_test l i)
    (below (months_test l) 13 (below (λ l. all (months_test l) 0 13) 2 months_pass l s) i h) in
    let u = both (leb (sum (take i (lengths l))) (31 * i)) (leb (31 * (i - 1)) (sum (take i (lengths l)))) t.1 in
    record {
      told = eqb-true (sum (take i (lengths l)) + cond (ltb i 2) 0 2) ((367 * i + 5) / 12 + cond (ltb i 2) 0 l) t.0;
      most = leb-true (sum (take i (lengths l))) (31 * i) u.0;
      least = leb-true (31 * (i - 1)) (sum (take i (lengths l))) u.1;
    }

pub first_months : (y i : ℕ) → i ≤ 12 → Months (leap_day y) (months y) i
unfolding months lengths
first_months y i h = by_leap (leap_day y) i (omega (arith, leap_one y)) (omega arith)

-- Each month has a day 28.
twenty_eight : ℕ → ℕ → Bool
twenty_eight l i = leb 28 (get_or (lengths l) i 0)

each_pass : all (λ l. all (twenty_eight l) 0 12) 0 2 ≡ true
unfolding twenty_eight lengths
each_pass = refl

pub each_month : (y i : ℕ) → i < 12 → 28 ≤ month_days y (suc i)
unfolding months month_days lengths twenty_eight
each_month y i h =
    let l = leap_day y in
    leb-true 28 (get_or (lengths l) i 0)
    (below (twenty_eight l) 12 (below (λ l. all (twenty_eight l) 0 12) 2 each_pass l (omega (arith, leap_one y))) i h)

-- No month has more days than 31.
thirty_one : ℕ → ℕ → Bool
thirty_one l i = leb (get_or (lengths l) i 0) 31

most_days : all (λ l. all (thirty_one l) 0 12) 0 2 ≡ true
unfolding thirty_one lengths
most_days = refl

pub month_most : (y m : ℕ) → month_days y m ≤ 31
unfolding months month_days lengths thirty_one
month_most y zero = omega arith
month_most y (suc i) =
    let l = leap_day y in
    ⊎_elim
    (λ h.
    leb-true (get_or (lengths l) i 0) 31
    (below (thirty_one l) 12 (below (λ l. all (thirty_one l) 0 12) 2 most_days l (omega (arith, leap_one y))) i h))
    (λ h. omega (arith, no_month y (suc i) (omega arith)))
    (lt_or_le i 12)

-- The days of a month as the code has them.
days_of : ℕ → ℕ → ℕ
days_of l m = cond (eqb m 2) (28 + l) (30 + (m + m / 8) % 2)

days_test : ℕ → ℕ → Bool
days_test l i = eqb (get_or (lengths l) i 0) (days_of l (suc i))

days_pass : all (λ l. all (days_test l) 0 12) 0 2 ≡ true
unfolding days_test days_of lengths
days_pass = refl

-- Of a month, and of February.
month_told : (y m : ℕ) → 1 ≤ m → m ≤ 12 → month_days y m ≡ days_of (leap_day y) m
unfolding month_days months lengths days_test
month_told y zero g h = absurd (omega arith)
month_told y (suc i) g h =
    let l = leap_day y in
    eqb-true (get_or (lengths l) i 0) (days_of l (suc i))
    (below (days_test l) 12 (below (λ l. all (days_test l) 0 12) 2 days_pass l (omega (arith, leap_one y))) i (omega arith))

pub february : (y m : ℕ) → m ≡ 2 → month_days y m ≡ 28 + leap_day y
unfolding days_of
february y m e = rw e (month_told y 2 (omega arith) (omega arith))

pub other_month : (y m : ℕ) → 1 ≤ m → m ≤ 12 → (m ≡ 2 → ⊥) → month_days y m ≡ 30 + (m + m / 8) % 2
unfolding days_of
other_month y m g h n = rw (ne_eqb m 2 n) at (month_told y m g h)
