-- The pairs of each key of a half, one after the other.
use Prim.Native.Nat.{◌+◌, ◌*◌, ◌≤◌}
use lib.Dec.{eqb}
use Rattle.index.specs.Message.{kind_of, kind_in, mask_with}
use Rattle.index.specs.Wide.{longest_list, mask_in, names_from, pairs}
use Rattle.index.specs.work.Halves.{half_number}
use Rattle.index.specs.work.Pairing.{Listing}
use Rattle.index.proofs.messages.pairs.FormedWide.put_half.Given as goal

abbrev pub invariant-loop-i : goal.invariant-loop-i
invariant-loop-i l =
    (l.place ≤ l.at + longest_list * l.i)
    × Listing (eqb (half_number l.h) 1) l.at l.place (pairs (kind_of (kind_in l.self.bytes.now)) (mask_with l.self.bytes.now (half_number l.h) (mask_in l.self.bytes.now (half_number l.h))) (names_from l.self.bytes.now l.keys l.i) (names_from l.self.bytes.now l.ids l.n)) l.initial.list l.list
