-- A number is written as its two bytes.
use Prim.Native.Nat.{◌/◌, ◌%◌}
use mathlib.Core.Path.{◌≡◌}
use native.Mathlib.Omega.{arith}
use Rattle.index.proofs.laws.block.Bytes.{put}
use Rattle.index.proofs.block.numbers.put_number.Goals as goal

pub returns : goal.returns
returns c =
    let n = c.args.n in
    let e : n / 256 % 256 ≡ n / 256 = omega (arith, c.requires.1) in
    rw (c.to_le_bytes.ensures, e) (put c.args.b.now c.args.i n c.requires.0)
