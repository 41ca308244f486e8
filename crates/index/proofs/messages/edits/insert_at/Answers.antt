-- A record comes, where there is room.
use native.Mathlib.Omega.{arith}
use Rattle.index.specs.work.Halves.{as_half}
use Rattle.index.proofs.laws.message.Steps.{add_no_room, added_inserted}
use Rattle.index.proofs.messages.edits.insert_at.Goals as goal

pub returns-then-b-number_at : goal.returns-then-b-number_at
returns-then-b-number_at c = add_no_room (as_half c.args.h) c.requires.1 (omega (arith, c.requires.0.good.end_offset))

pub returns : goal.returns
returns c =
    added_inserted (as_half c.args.h) c.requires.0 (λ t. omega (arith, c.type_inv.b t)) c.requires.1 (omega (arith, c.requires.0.good.end_offset))
    c.splice.ensures c.put_record.ensures
