-- A half goes down in the record that is there.
use native.Mathlib.Omega.{arith}
use Rattle.std.proofs.lemmas.Grind.{merely}
use Rattle.index.specs.Block.{Sized}
use Rattle.index.specs.work.Halves.{as_half}
use Rattle.index.proofs.laws.message.Steps.{take_missing}
use Rattle.index.proofs.messages.edits.take_away.Goals as goal

pub invariant_of-block : goal.invariant_of-block
unfolding Sized
invariant_of-block c = record { sized = merely (omega (arith, c.requires.good.fits), c.requires.short); good = merely c.requires.good }

pub returns-in-Err : goal.returns-in-Err
returns-in-Err c = take_missing (as_half c.args.h) c.in-Err.ensures c.requires.masked
