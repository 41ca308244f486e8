-- The months over on a day of the year: a month has at most 31 days, and of 12 months few enough have less.
use Prim.Native.Nat.{suc, ◌*◌, ◌/◌}
use mathlib.Core.Path.{ap}
use lib.ListN.{take}
use native.Mathlib.Numerals.{add-one}
use native.Mathlib.Omega.{arith}
use Rattle.calendar.specs.Dates.{sum, months}
use Rattle.calendar.proofs.laws.Years.{first_months, year_days, leap_one, months_grow}
use Rattle.calendar.proofs.laws.Dates.{one_more}
use Rattle.calendar.proofs.dates.months_over.Goals as goal

pub months_days-requires : goal.months_days-requires
months_days-requires c = omega (arith, year_days c.args.year, leap_one c.args.year)

pub returns-then-n-months_days : goal.returns-then-n-months_days
returns-then-n-months_days c =
    let y = c.args.year in
    let q = c.args.n / 31 in
    omega (arith, (first_months y q (omega (arith, year_days y, leap_one y))).most, ap (λ i. sum (take i (months y))) (add-one q), year_days y, leap_one y)

pub returns-else-n-months_days : goal.returns-else-n-months_days
unfolding months
returns-else-n-months_days c =
    let y = c.args.year in
    let n = c.args.n in
    let q = n / 31 in
    let e = ap (λ i. sum (take i (months y))) (add-one q) in
    rw (add-one q)
    (one_more (λ i. sum (take i (months y))) 12 n q (31 * suc q) (months_grow y) c.requires (omega arith) (omega arith)
    (λ l. omega (arith, (first_months y (suc (suc q)) l).least)))
