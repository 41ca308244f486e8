-- The years over on a day: a year has at most 366 days, and of 430 years few enough have less.
use Prim.Native.Nat.{suc, ◌*◌, ◌/◌}
use mathlib.Core.Path.{ap}
use native.Mathlib.Numerals.{add-one}
use native.Mathlib.Omega.{arith}
use Rattle.calendar.specs.Dates.{years_days}
use Rattle.calendar.proofs.laws.Years.{all_days, years_grow, years_least, years_most}
use Rattle.calendar.proofs.laws.Dates.{one_more}
use Rattle.calendar.proofs.dates.years_over.Goals as goal

pub returns-then-n-years_days : goal.returns-then-n-years_days
returns-then-n-years_days c = let q = c.args.n / 366 in omega (arith, years_least q, ap years_days (add-one q))

pub returns-else-n-years_days : goal.returns-else-n-years_days
returns-else-n-years_days c =
    let n = c.args.n in
    let q = n / 366 in
    let e = ap years_days (add-one q) in
    rw (add-one q)
    (one_more years_days 430 n q (366 * suc q) years_grow (omega (arith, all_days)) (omega arith) (omega arith) (λ l. years_most q (omega arith)))
