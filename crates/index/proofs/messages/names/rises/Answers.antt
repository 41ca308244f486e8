-- Each name is compared with the one before.
use Prim.Native.Nat.{◌+◌, ◌-◌}
use mathlib.Core.Path.{◌≡◌}
use native.Mathlib.Omega.{arith}
use Rattle.index.proofs.laws.message.NameLists.{steps_rising, rising_steps}
use Rattle.index.proofs.messages.names.rises.Goals as goal

pub returns-then-name-number_at : goal.returns-then-name-number_at
returns-then-name-number_at c r =
    let i = c.loop-i.i in
    let e : i - 1 + 1 ≡ i = omega arith in
    omega (arith, rw e at (steps_rising c.args.m.now c.args.at c.args.n r (i - 1) (omega arith)))

pub returns : goal.returns
returns c = rising_steps c.args.m.now c.args.at c.args.n (λ j l. c.loop-i.invariant j (omega arith))
