-- `index::text::writing::put_piece` meets its contract: nothing, the letter, or the letter and its count.
use mathlib.Core.List.{[], ◌∷◌}
use Rattle.index.specs.Text.{decimal}
use Rattle.index.proofs.laws.text.Writes.{puts_none, puts_then, text_none, text_one, text_many}
use Rattle.index.proofs.text.writing.put_piece.Goals as goal

pub returns-then-n-eq0 : goal.returns-then-n-eq0
returns-then-n-eq0 c = rw (text_none _ _ c.if-n-eq0.true) (puts_none _ _)

pub returns-then-n-eq1 : goal.returns-then-n-eq1
returns-then-n-eq1 c = rw (text_one _ _ c.if-n-eq1.true) c.put_byte-end.ensures

pub returns : goal.returns
returns c =
    rw (text_many _ _ c.if-n-eq0.false c.if-n-eq1.false)
    (puts_then (_ ∷ []) (decimal c.args.n) c.put_byte-end.ensures c.put_decimal.ensures)
