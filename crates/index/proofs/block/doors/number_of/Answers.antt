-- `doors::number_of` meets its contract: a byte past the end is 0.
use Prim.Native.Nat.{ℕ, ◌+◌, ◌≤◌}
use mathlib.Core.Path.{◌≡◌}
use mathlib.Core.List.{List}
use native.Mathlib.Omega.{arith}
use lib.ListN.{length, get_or, get_or-eq_default}
use Rattle.index.specs.Block.{number}
use Rattle.index.proofs.block.doors.number_of.Goals as goal

past : (b : List ℕ) (i : ℕ) → length b ≤ i → get_or b i 0 ≡ 0
past b i h = get_or-eq_default b 0 h

pub returns-then-at-b : goal.returns-then-at-b
unfolding number
returns-then-at-b c = omega (arith, c.type_inv.b c.args.at, c.type_inv.b (c.args.at + 1))

pub returns-then-at-b-2 : goal.returns-then-at-b-2
unfolding number
returns-then-at-b-2 c =
    let start = c in
    omega (arith, past start.args.b.now (start.args.at + 1) (omega arith))

pub returns : goal.returns
unfolding number
returns c =
    let start = c in
    let b = start.args.b.now in
    let at = start.args.at in
    omega (arith, past b at (omega arith), past b (at + 1) (omega arith))
