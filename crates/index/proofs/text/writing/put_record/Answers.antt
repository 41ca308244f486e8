-- `index::text::writing::put_record` meets its contract: the id, `;`, the letters.
use mathlib.Core.List.{List, [], ◌∷◌}
use Prim.Native.Nat.{ℕ}
use native.Mathlib.Omega.{arith}
use Rattle.index.specs.Letters.{letters}
use Rattle.index.specs.Text.{decimal, pieces_of, counts_at, entry_text}
use Rattle.index.proofs.laws.text.Decimal.{decimal_five}
use Rattle.index.proofs.laws.text.Writes.{puts_then}
use Rattle.index.proofs.text.writing.put_record.Goals as goal

pub put_byte-end-requires : goal.put_byte-end-requires
put_byte-end-requires c = omega (arith, decimal_five c.id.result (omega arith), c.put_decimal-mark.ensures.ends)

pub put_pieces-requires : goal.put_pieces-requires
put_pieces-requires c = (omega (arith, decimal_five c.id.result (omega arith), c.put_decimal-mark.ensures.ends, c.put_byte-end.ensures.ends), c.requires.1)

pub returns : goal.returns
unfolding entry_text
returns c =
    let t : List ℕ = pieces_of letters (counts_at c.args.source.block.now c.args.source.i) in
    rw (← c.id.ensures.is)
    (puts_then (decimal c.id.result) (59 ∷ t) c.put_decimal-mark.ensures (puts_then (59 ∷ []) t c.put_byte-end.ensures c.put_pieces.ensures))
