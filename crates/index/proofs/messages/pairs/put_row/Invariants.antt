-- The pairs of one key, one after the other.
use Prim.Native.Nat.{◌+◌}
use mathlib.Core.List.{map}
use Rattle.index.specs.Wide.{names_from}
use Rattle.index.specs.work.Edits.{half}
use Rattle.index.specs.work.Pairing.{Listing}
use Rattle.index.proofs.messages.pairs.put_row.Given as goal

abbrev pub invariant-loop-i : goal.invariant-loop-i
invariant-loop-i l = Listing l.adds l.at (l.at + l.i) (map (λ y. half l.fn.c.kind l.fn.c.key y l.fn.c.mask) (names_from l.m l.ids l.i)) l.initial.list l.list
