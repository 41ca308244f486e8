-- A splice moves the bytes behind it and writes the header.
use native.Mathlib.Omega.{arith}
use Rattle.index.proofs.laws.block.Sizes.{shifted_size, shifted_records, spliced_is}
use Rattle.index.proofs.block.moves.splice.Goals as goal

pub resize-requires : goal.resize-requires
resize-requires c =
    let s = c in
    let shift = c.shift in
    let r = shifted_records shift.ensures (omega arith) (omega arith) in
    let k = shifted_size shift.ensures (omega arith) (omega arith) s.args.kind in
    omega (arith, s.requires.room)

pub returns : goal.returns
returns c =
    spliced_is c.shift.ensures
    c.resize.ensures (omega arith)
