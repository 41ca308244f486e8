-- The records of a part are looked at one after the other, each against the one before it, and after the last what was joined
-- of them.
use Prim.Native.Nat.{◌+◌}
use mathlib.Core.Path.{◌≡◌}
use native.Mathlib.Omega.{arith}
use Rattle.index.proofs.laws.Answer.{says_same}
use Rattle.index.proofs.laws.block.Checked.{Passed, passed_more, passed_part, part_follows, part_fair}
use Rattle.index.proofs.block.checks.part_good.Goals as goal
use Rattle.index.proofs.block.checks.part_good.Goals.{then-n-j+else-not-follows-3, else-n-j}

pub returns-then-not-follows : goal.returns-then-not-follows
returns-then-not-follows c =
    let inv = c.loop-n.invariant in
    λ p. c.if-not-follows.ensures (part_follows inv.0 (omega arith) inv.2 p)

pub returns-then-not-follows-2 : goal.returns-then-not-follows-2
returns-then-not-follows-2 c =
    let inv = c.loop-n.invariant in
    let passed = passed_more inv.0 inv.2 c.if-not-follows.ensures c.look-sight.ensures in
    λ p. c.if-not-follows-2.ensures (part_follows (omega arith) (omega arith) passed p)

pub loop-n-preserved : goal.loop-n-preserved
loop-n-preserved c =
    let inv = c.loop-n.invariant in
    let passed = passed_more inv.0 inv.2 c.if-not-follows.ensures c.look-sight.ensures in
    let e : c.loop-n.n + 1 + 1 ≡ c.loop-n.n + 2 = omega arith in
    (omega arith, omega arith, rw e at (passed_more (omega arith) passed c.if-not-follows-2.ensures c.look-sight-in-loop-n.ensures))

pub returns-then-not-follows-3 : goal.returns-then-not-follows-3
returns-then-not-follows-3 c =
    let inv = c.loop-n.invariant in
    λ p. c.if-not-follows-3.ensures (part_follows inv.0 (omega arith) inv.2 p)

pub returns : goal.returns
returns c =
    let args = c.args in
    let inv = c.loop-n.invariant in
    let passed : Passed args.b.now args.kind args.i args.j c.if-n-j.sight =
    elim c.if-n-j.branch [
      | then-n-j+else-not-follows-3 w ↦
          let last : c.loop-n.n + 1 ≡ args.j = omega (arith, w.if-n-j.true) in
          rw w.sight-is (rw last at (passed_more inv.0 inv.2 w.if-not-follows-3.ensures w.look-sight-then-n-j.ensures))
      | else-n-j w ↦
          let e : c.loop-n.n ≡ args.j = omega (arith, w.if-n-j.false) in
          rw w.sight-is (rw e at inv.2)
    ] in
    says_same c.fair.result (passed_part passed) (part_fair passed) c.fair.ensures
