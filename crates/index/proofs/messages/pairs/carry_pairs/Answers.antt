-- The pairs of a wide message are listed, those to be taken away before those to be added, and the list is run.
use lib.ListN.{take}
use Rattle.index.specs.Wide.{wide_halves}
use Rattle.index.proofs.laws.message.PairsListed.{both_listed, prepared_changes}
use Rattle.index.proofs.messages.pairs.carry_pairs.Goals as goal

pub run-requires : goal.run-requires
run-requires c =
    let s = c in
    let m = s.args.m.now in
    prepared_changes s.args.b.now (take c.put_half-end.result c.put_half-end.new.list) (wide_halves m 0) (wide_halves m 1)
    (both_listed (wide_halves m 0) (wide_halves m 1) c.put_half-middle.ensures.1 c.put_half-end.ensures.1) s.requires.ready

pub returns : goal.returns
returns c =
    let m = c.args.m.now in
    rw (both_listed (wide_halves m 0) (wide_halves m 1) c.put_half-middle.ensures.1 c.put_half-end.ensures.1) at c.run.ensures
