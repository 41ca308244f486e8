-- A record has a count above zero: four counts, four more, then the two of the markers.
use native.Mathlib.Omega.{arith}
use Rattle.index.specs.Letters.{right_count}
use Rattle.index.proofs.laws.block.Checked.{four_counted, markers_say}
use Rattle.index.proofs.block.record.Record.has_count.Goals as goal

pub returns-then-four-ne0 : goal.returns-then-four-ne0
returns-then-four-ne0 c = four_counted _ _ 0 (omega arith) (omega arith)

pub returns-then-four-ne0-2 : goal.returns-then-four-ne0-2
returns-then-four-ne0-2 c = four_counted _ _ right_count (omega arith) (omega arith)

pub returns : goal.returns
returns c = rw c.two.ensures (markers_say _ _ (omega arith) (omega arith))
