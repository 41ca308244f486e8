-- `checking::leads` meets its contract. The loop's invariant: there is a link to each name before place i from the one before it.
use Prim.Native.Nat.{ℕ, ◌+◌, ◌<◌}
use lib.ListN.{get_or}
use Rattle.rights.specs.Held.{Carries}
use Rattle.slips.proofs.checking.leads.Given as goal

abbrev pub invariant-loop-i : goal.invariant-loop-i
invariant-loop-i l = (j : ℕ) → j + 1 < l.i → Carries l.block.bytes.now l.right.place (get_or l.names j 0) (get_or l.names (j + 1) 0)
