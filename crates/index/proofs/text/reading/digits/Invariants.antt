-- `index::text::reading::digits` meets its contract: a step of `read_digits` for each way.
use Prim.Native.Nat.{◌≤◌}
use mathlib.Core.Path.{◌≡◌}
use lib.ListN.{drop}
use Rattle.index.specs.work.Reading.{read_digits}
use Rattle.index.proofs.text.reading.digits.Given as goal

abbrev pub invariant-loop-at : goal.invariant-loop-at
invariant-loop-at l = (l.sum ≤ l.most) × (read_digits l.least l.most l.sum (drop l.at l.text) ≡ read_digits l.least l.most l.n (drop l.initial.at l.text))
