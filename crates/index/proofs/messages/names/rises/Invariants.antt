-- Each name is compared with the one before.
use Prim.Native.Nat.{ℕ, ◌+◌, ◌<◌}
use Rattle.index.proofs.laws.message.NameLists.{name_at}
use Rattle.index.proofs.messages.names.rises.Given as goal

abbrev pub invariant-loop-i : goal.invariant-loop-i
invariant-loop-i l = (j : ℕ) → j + 1 < l.i → name_at l.m l.at j < name_at l.m l.at (j + 1)
