-- `standing::put_decimal` meets its contract: the digits before the last, and then the last.
use Rattle.std.proofs.Common.{◌+◌, ◌/◌, ◌%◌, [], ◌∷◌, length, refl, ap, arith}
use Rattle.index.specs.Text.{decimal}
use Rattle.index.proofs.laws.text.Decimal.{decimal_small, decimal_step, decimal_longer}
use Rattle.index.proofs.laws.text.Writes.{puts_then}
use Rattle.standing.proofs.+put_decimal.Goals as goal

pub bounds-out-at : goal.bounds-out-at
bounds-out-at t c = omega (arith, ap length (decimal_small _ c.if-n-lt10.true))

pub returns-then-n-lt10 : goal.returns-then-n-lt10
returns-then-n-lt10 t c = rw (decimal_small _ c.if-n-lt10.true) (record { ends = refl; buffer = refl })

pub put_decimal-end-requires : goal.put_decimal-end-requires
put_decimal-end-requires t c = (omega arith, omega (arith, decimal_longer c.args.n (omega arith) (omega arith)))

pub bounds-out-end : goal.bounds-out-end
bounds-out-end t c = omega (arith, decimal_longer c.args.n (omega arith) (omega arith))

pub overflow_add-result-2 : goal.overflow_add-result-2
overflow_add-result-2 t c = omega (arith, decimal_longer c.args.n (omega arith) (omega arith))

pub returns : goal.returns
returns t c =
    rw (decimal_step c.args.n (omega arith) (omega arith))
    (puts_then (decimal (c.args.n / 10)) ((48 + c.args.n % 10) ∷ []) c.put_decimal-end.ensures (record { ends = refl; buffer = refl }))
