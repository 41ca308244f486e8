-- `standing::put_refusal` meets its contract: the words, the number, the words between and the number of the refusal.
use mathlib.Core.Path.{refl}
use Rattle.std.proofs.Common.{◌++◌, arith, length-append}
use Rattle.index.specs.Text.{decimal}
use Rattle.index.proofs.laws.Refusing.{some}
use Rattle.index.proofs.laws.text.Decimal.{decimal_twenty}
use Rattle.index.proofs.laws.text.Writes.{puts_none, puts_then}
use Rattle.standing.specs.Printed.{message_word, refused_word, newline}
use Rattle.standing.proofs.Lines.{puts_front, refusal_none, refusal_some}
use Rattle.standing.proofs.put_refusal.Goals as goal

pub returns-in_default : goal.returns-in_default
returns-in_default c = rw c.in_default.is (rw (refusal_none c.args.n 0 refl) at (puts_front (puts_none 0 c.args.out.now) (omega arith)))

pub put_numbered-number-requires : goal.put_numbered-number-requires
put_numbered-number-requires c = let s = decimal_twenty c.args.n (omega arith) in omega arith

pub put_numbered-end-requires : goal.put_numbered-end-requires
put_numbered-end-requires c =
    let s = decimal_twenty c.args.n (omega arith) in
    let r = decimal_twenty c.number.result (omega arith) in
    omega (arith, c.put_numbered-number.ensures.ends)

pub put_bytes-requires : goal.put_bytes-requires
put_bytes-requires c =
    let s = decimal_twenty c.args.n (omega arith) in
    let r = decimal_twenty c.number.result (omega arith) in
    omega (arith, c.put_numbered-number.ensures.ends, c.put_numbered-end.ensures.ends)

pub returns : goal.returns
returns c =
    let s = decimal_twenty c.args.n (omega arith) in
    let r = decimal_twenty c.number.result (omega arith) in
    rw (c.in-Err.is, ← c.number.ensures)
    (rw (refusal_some c.args.n c.number.result (rw c.number.ensures (some c.in-Err.refusal))) at
    (puts_front
    (puts_then (message_word ++ decimal c.args.n) _ c.put_numbered-number.ensures
    (puts_then (refused_word ++ decimal c.number.result) newline c.put_numbered-end.ensures c.put_bytes.ensures))
    (simp length-append (omega arith))))
