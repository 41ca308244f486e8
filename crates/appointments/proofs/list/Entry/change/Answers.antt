-- The membership of an appointment as a change.
use Prim.Native.Nat.{◌+◌, ◌*◌}
use native.Mathlib.Omega.{arith}
use Rattle.index.specs.Message.{kind_of}
use Rattle.index.proofs.laws.message.Packing.{unpacked}
use Rattle.appointments.specs.work.Listed.{appointment_of}
use Rattle.appointments.proofs.list.Entry.change.Goals as goal

pub returns : goal.returns
unfolding appointment_of kind_of
returns c =
    let e = c.args.self in
    rw c.pack.ensures (unpacked 1 e.key e.id (e.mask + 256 * e.marker) (omega arith) (omega arith) (omega arith) c.args.adds)
