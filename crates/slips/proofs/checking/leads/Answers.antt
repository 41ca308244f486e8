-- `checking::leads` meets its contract. The loop's invariant: there is a link to each name before place i from the one before it.
use Prim.Native.Nat.{ℕ, ◌+◌, ◌-◌, ◌<◌, ◌≤◌}
use mathlib.Core.List.{List}
use mathlib.Core.Path.{◌≡◌}
use native.Mathlib.Omega.{arith}
use native.Mathlib.Decide.{ℕ_discrete}
use lib.ListN.{get_or}
use Rattle.index.proofs.laws.Answer.{yes_is, no_is}
use Rattle.rights.specs.Held.{Carries}
use Rattle.slips.proofs.checking.leads.Goals as goal

-- Links up to place i, and one from the place before it.
one_more : (P : ℕ → ℕ → Type 0) (names : List ℕ) (i : ℕ) → 1 ≤ i → ((j : ℕ) → j + 1 < i → P (get_or names j 0) (get_or names (j + 1) 0))
    → P (get_or names (i - 1) 0) (get_or names i 0) → (j : ℕ) → j + 1 < i + 1 → P (get_or names j 0) (get_or names (j + 1) 0)
one_more P names i some before here j l =
    elim (ℕ_discrete j (i - 1)) [
      | yes e ↦ let e' : j + 1 ≡ i = omega arith in rw (e', e) here
      | no ne ↦ before j (omega (arith, ne))
    ]

pub returns-then-not-has_net : goal.returns-then-not-has_net
unfolding Carries
returns-then-not-has_net c n =
    let i = c.loop-i.i - 1 in
    let e : i + 1 ≡ c.loop-i.i = omega (arith, c.loop-i.auto.i) in
    no_is c.if-not-has_net.true (rw e at (n.linked i (omega (arith, e, c.loop-i-test.true)))) c.has_net.ensures

pub loop-i-preserved : goal.loop-i-preserved
unfolding Carries
loop-i-preserved c =
    one_more (Carries c.args.block.bytes.now c.args.right.place) c.args.names.now c.loop-i.i (omega (arith, c.loop-i.auto.i)) c.loop-i.invariant
    (yes_is c.if-not-has_net.false c.has_net.ensures)
