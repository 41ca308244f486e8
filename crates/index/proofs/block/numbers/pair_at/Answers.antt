-- Two numbers as one are their four bytes.
use Rattle.std.proofs.Common.{◌+◌, ◌≡◌, arith}
use Rattle.index.specs.Block.{number}
use Rattle.index.proofs.block.numbers.pair_at.Goals as goal

pub returns : goal.returns
unfolding number
returns c =
    let i = c.args.i in
    let known = c.type_inv.b in
    let e : i + 2 + 1 ≡ i + 3 = omega arith in
    record {
      is = rw e (omega arith);
      low_small = omega (arith, known i, known (i + 1));
      high_small = rw e (omega (arith, known (i + 2), known (i + 3)));
    }
