-- `lookup::lowest` meets its contract. The loop's invariant: what is known of the records outside the window.
use Rattle.std.proofs.Common.{ℕ, ◌+◌, ◌/◌, ◌≡◌, ◌≤◌, List, arith}
use Rattle.index.specs.declared.Kind.{Kind}
use Rattle.index.specs.Block.{most_records, Sized, Good, from, size}
use Rattle.index.proofs.laws.block.Records.{few_records, gap_in}
use Rattle.rights.proofs.laws.walk.Looking.{no_more, window_all, halve, met}
use Rattle.rights.proofs.laws.Known.{is_good, is_sized}
use Rattle.rights.proofs.lookup.lowest.Goals as goal

-- No part has more records than there is room for in the longest block.
few : {b : List ℕ} {end : ℕ} → Sized b → Good b → (kind : Kind) → end ≡ from b kind + size b kind → end ≤ most_records
few {b} s g kind is_end = omega (arith, is_end, gap_in kind b (from b kind + size b kind) (omega arith), few_records s g)

pub loop-window-init : goal.loop-window-init
loop-window-init c =
    let part = c.part_of-part.result in
    let most = few (is_sized c.args.block) (is_good c.args.block) c.args.kind c.part_of-part.ensures.last in
    (omega arith, omega arith, window_all _ part.from part.end _ most_records (omega (arith, most)))

pub loop-window-preserved : goal.loop-window-preserved
loop-window-preserved c =
    let loop = c.loop-window in
    let told = c.part_of-part.ensures in (
      omega arith,
      omega (arith, loop.invariant.1, no_more c.taken-low.ensures),
      halve (is_good c.args.block) c.args.kind c.requires told.first told.last loop.invariant.2 (loop.window / 2)
          (omega arith) c.key_before.ensures c.taken-low.ensures,
    )

pub returns : goal.returns
returns c =
    let told = c.part_of-part.ensures in
    met (is_good c.args.block) c.args.kind c.requires told.first told.last c.loop-window.invariant.2 (omega arith) c.key_before-2.ensures c.taken.ensures
