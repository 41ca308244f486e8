-- `index::text::writing::put_decimal` meets its contract: the digits but for the last, and the last.
use Prim.Native.Nat.{◌+◌, ◌/◌, ◌%◌}
use mathlib.Core.List.{[], ◌∷◌}
use native.Mathlib.Omega.{arith}
use Rattle.index.specs.Text.{decimal}
use Rattle.index.proofs.laws.text.Decimal.{decimal_small, decimal_step, decimal_five}
use Rattle.index.proofs.laws.text.Writes.{puts_then}
use Rattle.index.proofs.text.writing.+put_decimal.Goals as goal

pub returns-then-n-lt10 : goal.returns-then-n-lt10
returns-then-n-lt10 t c = rw (decimal_small _ c.if-n-lt10.true) c.put_byte.ensures

pub put_byte-requires-2 : goal.put_byte-requires-2
put_byte-requires-2 t c = omega (arith, decimal_five (c.args.n / 10) (omega arith), c.put_decimal-end.ensures.ends)

pub returns : goal.returns
returns t c =
    let n = c.args.n in
    rw (decimal_step n (omega arith) (omega arith))
    (puts_then (decimal (n / 10)) ((48 + n % 10) ∷ []) c.put_decimal-end.ensures c.put_byte-2.ensures)
