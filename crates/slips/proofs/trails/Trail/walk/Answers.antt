-- `trails::Trail::walk` meets its contract. The loop's invariant: round n may begin.
use Prim.Native.Nat.{ℕ}
use mathlib.Core.Path.{refl}
use native.Mathlib.Omega.{arith}
use lib.ListN.{replicate, length-replicate}
use Rattle.index.specs.Block.{name_count}
use Rattle.rights.proofs.laws.Known.{is_good}
use Rattle.slips.proofs.laws.Walking.{begun_list, begun, next_round, no_more}
use Rattle.slips.proofs.trails.Trail.walk.Goals as goal

pub loop-n-init : goal.loop-n-init
loop-n-init c =
    let name = c.requires.begins.0 in
    let clear = c.requires.steps_value in
    (omega arith, (rw clear.0 (begun_list c.args.block.bytes.now c.args.right.place (replicate name_count 0) name (length-replicate {A = ℕ} name_count 0)), rw clear.0 (begun c.args.block.bytes.now c.args.right.place (replicate name_count 0) name (length-replicate {A = ℕ} name_count 0) clear.1)))

pub loop-n-preserved : goal.loop-n-preserved
loop-n-preserved c =
    let r = c.round.ensures in
    (r.listed_2.1, (r.listed_2.0, next_round (is_good c.args.block) (r.by_index c.args.start c.loop-n.invariant.1.1) (omega (arith, c.loop-n-test.true)) refl))

pub returns-after-loop-n : goal.returns-after-loop-n
returns-after-loop-n c =
    no_more (is_good c.args.block) c.loop-n.invariant.1.1 refl (omega (arith, c.loop-n.auto.n-end)) (λ z h e l. absurd (omega (arith, c.loop-n-test.false)))

pub returns-then-reached-hi : goal.returns-then-reached-hi
returns-then-reached-hi c =
    let t = c.round.ensures.by_index c.args.start c.loop-n.invariant.1.1 in
    no_more (is_good c.args.block) t c.if-reached-hi.true (omega (arith, c.loop-n-test.true)) (λ z h e l. t.now z h e)
