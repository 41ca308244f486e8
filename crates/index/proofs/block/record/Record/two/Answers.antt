-- The counts of the two markers are a pair of numbers.
use Prim.Native.Nat.{◌+◌, ◌*◌}
use native.Mathlib.Omega.{arith}
use Rattle.index.specs.Letters.{marker_x, marker_n}
use Rattle.index.specs.Block.{place}
use Rattle.index.proofs.laws.block.Bytes.{count_in_lem}
use Rattle.index.proofs.block.record.Record.two.Goals as goal

pub returns : goal.returns
returns c =
    let a = c.args in
    let at = place a.self.i + 4 + 2 * marker_x in
    let count = count_in_lem a.self.block.now a.self.i in
    omega (arith, count marker_x at (omega arith) (omega arith), count marker_n (at + 2) (omega arith) (omega arith))
