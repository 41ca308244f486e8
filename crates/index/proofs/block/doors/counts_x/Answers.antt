-- An M record counts X where the `or` of all their counts of X is above zero.
use native.Mathlib.Omega.{arith}
use borrow.Author.Tests.{ltb-true, lt-ltb}
use Rattle.index.proofs.laws.block.Seen.{some_more}
use Rattle.index.proofs.block.doors.counts_x.Goals as goal

pub invariant_of-count : goal.invariant_of-count
invariant_of-count c = record { whole = ((c.whole_members-end.ensures c.loop-i.i).0 c.loop-i-test.true).1 }

pub loop-i-preserved : goal.loop-i-preserved
loop-i-preserved c = some_more c.count-seen.ensures.is c.loop-i.invariant

pub returns : goal.returns
returns c =
    let inv = c.loop-i.invariant in
    let whole = c.whole_members-end.ensures in (
      (λ e.
          let w = inv.one_then (ltb-true 0 c.loop-i.seen e) in
          let m = (whole w.0).0 (omega (arith, w.1)) in
          (w.0, m.0, m.1, w.2)),
      (λ x. lt-ltb 0 c.loop-i.seen (inv.then_one x.0 (omega (arith, (whole x.0).1 (x.1, x.2))) x.3)),
    )
