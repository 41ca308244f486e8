-- Each name of a list is tested.
use Prim.Native.Nat.{ℕ, ◌<◌}
use Rattle.index.specs.Block.{IsName}
use Rattle.index.proofs.laws.message.NameLists.{name_at}
use Rattle.index.proofs.messages.names.WideLists.all_names.Given as goal

abbrev pub invariant-loop-i : goal.invariant-loop-i
invariant-loop-i l = (j : ℕ) → j < l.i → IsName (name_at l.self.bytes.now l.at j)
