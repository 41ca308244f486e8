-- `standing::put_line` meets its contract: the letter, the key, a space, the text and a newline.
use Rattle.index.proofs.laws.text.Writes.{puts_then}
use Rattle.standing.specs.Printed.{space, newline}
use Rattle.standing.proofs.put_line.Goals as goal

pub returns : goal.returns
returns c =
    rw (← c.letter_of.ensures)
    (puts_then _ newline
    (puts_then _ _ (puts_then _ space c.put_numbered-number.ensures c.put_bytes-start.ensures) c.put_bytes-end.ensures)
    c.put_bytes.ensures)
