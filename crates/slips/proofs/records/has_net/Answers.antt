-- `records::has_net` meets its contract. The loop's invariant: no record of the part before i has the key and the id.
use native.Mathlib.Omega.{arith}
use Rattle.index.specs.work.Places.{At}
use Rattle.index.proofs.laws.Answer.{says_same}
use Rattle.index.proofs.laws.block.Records.{of_records}
use Rattle.rights.proofs.laws.ByNumber.{net_at, net_where}
use Rattle.rights.proofs.laws.Known.{is_good}
use Rattle.slips.proofs.laws.Parts.{in_part, pair_names}
use Rattle.slips.proofs.records.has_net.Goals as goal

pub returns-then-pair_of-pair : goal.returns-then-pair_of-pair
returns-then-pair_of-pair c =
    let good = is_good c.args.block in
    let of = in_part c.args.kind c.part_of-part.ensures c.loop-i.invariant.0 c.loop-i-test.true in
    let same = pair_names good (of_records c.args.kind _ c.loop-i.i of) c.pair_of.ensures c.ranges.x.fits c.if-pair_of-pair.true in
    let at : At _ c.args.kind _ _ _ = record { of = of; has_key = same.0; has_id = same.1 } in
    let net = net_at good c.args.kind c.args.right.place c.args.right.small at in
    says_same c.has_right.result net.0 net.1 c.has_right.ensures

pub returns : goal.returns
returns c = λ n.
    let w = net_where (is_good c.args.block) c.args.kind c.args.right.place n in
    c.loop-i.invariant.1 w.0 (omega (arith, w.1.of.0, c.part_of-part.ensures.first)) (omega (arith, w.1.of.1, c.part_of-part.ensures.last, c.loop-i-test.false)) w.1.has_key w.1.has_id
