-- Four counts as one number are two pairs of numbers.
use Prim.Native.Nat.{◌+◌, ◌*◌}
use native.Mathlib.Omega.{arith}
use Rattle.index.specs.Block.{place}
use Rattle.index.proofs.laws.block.Bytes.{count_in_lem}
use Rattle.index.proofs.block.record.Record.four.Goals as goal

pub returns : goal.returns
returns c =
    let a = c.args in
    let k = a.k in
    let at = place a.self.i + 4 + 2 * k in
    let count = count_in_lem a.self.block.now a.self.i in
    omega
    (arith, count k at (omega arith) (omega arith), count (k + 1) (at + 2) (omega arith) (omega arith), count (k + 2) (at + 4) (omega arith) (omega arith), count (k + 3) (at + 4 + 2) (omega arith) (omega arith))
