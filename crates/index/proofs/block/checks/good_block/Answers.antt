-- A block that passes the test is a good one.
use mathlib.Core.Path.{refl}
use native.Mathlib.Omega.{arith}
use Rattle.std.proofs.lemmas.Grind.{merely}
use Rattle.index.specs.Calls.{block_needs}
use Rattle.index.proofs.laws.Firsts.{passed}
use Rattle.index.proofs.block.checks.good_block.Goals as goal

pub invariant_of-result : goal.invariant_of-result
unfolding block_needs
invariant_of-result c =
    let held = passed (block_needs c.args.b.now) (omega arith) refl c.in_ok-tested.ensures in
    record { sized = merely held.0; good = merely held.1.0 }
