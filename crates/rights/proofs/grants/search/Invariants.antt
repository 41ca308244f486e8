-- `grants::search` meets its contract. The invariant of both loops: what was searched up to the name and the record at hand.
use Rattle.std.proofs.Common.{◌≡◌}
use Rattle.rights.proofs.laws.held.Granting.{Searched}
use Rattle.rights.proofs.grants.search.Given as goal

abbrev pub invariant-loop-i : goal.invariant-loop-i
invariant-loop-i l = (l.next ≡ l.i) × Searched l.profile l.block.bytes.now l.users l.objects l.request l.g l.i l.found l.barred

abbrev pub invariant-search : goal.invariant-search
invariant-search l = Searched l.profile l.block.bytes.now l.users l.objects l.request l.g l.next l.found l.barred
