-- `source::with_directory` meets its contract: what the tests say where they are passed.
use Rattle.std.proofs.Common.{refl}
use Rattle.std.proofs.lemmas.Grind.{merely}
use Rattle.directory.proofs.Passing.{fit}
use Rattle.rights.proofs.source.with_directory.Goals as goal

pub invariant_of-block : goal.invariant_of-block
invariant_of-block c =
    let fits = fit c.args.block.now c.args.directory.now refl c.in_ok-tested_by.ensures in
    record { sized = merely fits.sized; good = merely fits.good }

pub invariant_of-result : goal.invariant_of-result
invariant_of-result c = record { own = merely (fit c.args.block.now c.args.directory.now refl c.in_ok-tested_by.ensures).own }
