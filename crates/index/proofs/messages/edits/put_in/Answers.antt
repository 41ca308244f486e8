-- A half goes up in the record that is there, or its record is inserted.
use native.Mathlib.Omega.{arith}
use Rattle.std.proofs.lemmas.Grind.{merely}
use Rattle.index.specs.Block.{Sized}
use Rattle.index.specs.work.Halves.{as_half}
use Rattle.index.proofs.laws.message.Steps.{add_full, added_raised}
use Rattle.index.proofs.messages.edits.put_in.Goals as goal

pub invariant_of-block : goal.invariant_of-block
unfolding Sized
invariant_of-block c = record { sized = merely (omega (arith, c.requires.good.fits), c.requires.short); good = merely c.requires.good }

pub returns-then-not-allows : goal.returns-then-not-allows
returns-then-not-allows c = add_full (as_half c.args.h) c.requires.good c.in-Ok.ensures c.if-not-allows.ensures

pub returns-else-not-allows : goal.returns-else-not-allows
returns-else-not-allows c =
    added_raised (as_half c.args.h) c.requires (λ t. omega (arith, c.type_inv.b t)) c.in-Ok.ensures c.if-not-allows.ensures c.recount.ensures
