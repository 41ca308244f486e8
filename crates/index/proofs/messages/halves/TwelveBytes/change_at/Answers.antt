-- A half is read and packed as a change.
use native.Mathlib.Omega.{arith}
use lib.Dec.{eqb}
use Rattle.index.specs.work.Halves.{half_number}
use Rattle.index.proofs.laws.message.Packing.{packed_back}
use Rattle.index.proofs.messages.halves.TwelveBytes.change_at.Goals as goal

pub returns : goal.returns
returns c =
    let h = c.half_at-half in
    let s = h.ensures.small in
    rw (c.pack.ensures, c.number.ensures, c.is_new.ensures, ← h.ensures.half)
    (packed_back h.result.kind h.result.key h.result.id h.result.mask s.0 s.1 (omega (arith, s.2)) (eqb (half_number c.args.h) 1))
