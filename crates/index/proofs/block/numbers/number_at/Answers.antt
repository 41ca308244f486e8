-- The number at a byte is its two bytes.
use Prim.Native.Nat.{◌+◌}
use native.Mathlib.Omega.{arith}
use Rattle.index.specs.Block.{number}
use Rattle.index.proofs.block.numbers.number_at.Goals as goal

pub returns : goal.returns
unfolding number
returns c =
    let i = c.args.i in
    record { is = omega arith; small = omega (arith, c.type_inv.b i, c.type_inv.b (i + 1)) }
