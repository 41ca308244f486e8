-- The offset of each list is compared with the end of the one before, and the last end with that of the message.
use Prim.Native.Nat.{ℕ, ◌+◌, ◌*◌, ◌≤◌, ◌<◌}
use mathlib.Core.Path.{◌≡◌}
use Rattle.index.specs.Wide.{list_offset, list_place}
use Rattle.index.proofs.messages.names.WideHeader.in_place.Given as goal

abbrev pub invariant-loop-q : goal.invariant-loop-q
invariant-loop-q l = (l.place ≤ 16 + 510 * l.q) × (l.place ≡ list_place l.self.bytes.now l.q) × ((p : ℕ) → p < l.q → list_offset l.self.bytes.now p ≡ list_place l.self.bytes.now p)
