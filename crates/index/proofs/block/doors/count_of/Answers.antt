-- `index::block::doors::count_of` meets its contract: a record has so many letters, and none beyond.
use Rattle.index.proofs.laws.block.Bytes.{count_number, count_out}
use mathlib.Core.Path.{sym, ◌∙◌}
use native.Mathlib.Omega.{arith}
use Rattle.index.proofs.block.doors.count_of.Goals as goal

pub returns-then-letter-lt-LETTER_COUNT : goal.returns-then-letter-lt-LETTER_COUNT
returns-then-letter-lt-LETTER_COUNT c =
    let start = c in
    c.number_of.ensures ∙ sym (count_number start.args.b.now start.args.i start.args.k (omega arith))

pub returns : goal.returns
returns c =
    let start = c in
    sym (count_out start.args.b.now start.args.i start.args.k (omega arith))
