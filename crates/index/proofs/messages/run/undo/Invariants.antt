-- Going back, change by change.
use Prim.Native.Nat.{ℕ}
use mathlib.Core.Path.{◌≡◌}
use mathlib.Core.List.{List}
use lib.ListN.{length}
use Rattle.index.specs.work.Edits.{Prepared, Went}
use Rattle.index.proofs.messages.run.undo.Given as goal

abbrev pub invariant-loop-i : goal.invariant-loop-i
invariant-loop-i l =
    (length l.b ≡ length l.initial.b)
    × Prepared l.done l.b
    × ((o : List ℕ) → Went o l.done (length l.done) l.initial.b → Went o l.done l.i l.b)
