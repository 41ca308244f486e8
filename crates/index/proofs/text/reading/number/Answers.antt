-- `index::text::reading::number` meets its contract: a step of `read_number` for each way.
use mathlib.Core.Path.{sym, ◌∙◌}
use lib.ListN.{drop}
use Rattle.index.proofs.laws.text.HandedOn.{is_number}
use Rattle.index.proofs.laws.text.NumberReader.{high_enough}
use Rattle.index.proofs.laws.text.Decimal.{digit_test}
use Rattle.index.proofs.laws.text.ReadSteps.{number_end, number_zero, number_no_zero, number_digit, number_other}
use Rattle.index.proofs.text.reading.number.Goals as goal

pub returns-then-text-at : goal.returns-then-text-at
returns-then-text-at c =
    let a = c.args in number_end a.text.now a.c.at a.least a.most c.if-text-at.true

pub returns-then-least-eq0 : goal.returns-then-least-eq0
returns-then-least-eq0 c =
    let a = c.args in
    number_zero a.text.now a.c.at a.least a.most c.if-text-at.false c.if-b-eq48.true c.if-least-eq0.true

pub returns-then-b-eq48 : goal.returns-then-b-eq48
returns-then-b-eq48 c =
    let a = c.args in
    number_no_zero a.text.now a.c.at a.least a.most c.if-text-at.false c.if-b-eq48.true c.if-least-eq0.false

pub returns-then-not-is_ascii_digit : goal.returns-then-not-is_ascii_digit
returns-then-not-is_ascii_digit c =
    let a = c.args in
    number_other a.text.now a.c.at a.least a.most c.if-text-at.false c.if-b-eq48.false (digit_test _ ∙ sym c.is_ascii_digit.ensures.value ∙ c.if-not-is_ascii_digit.true)

-- A digit that is not 0 stands at the cursor: the number is what its digits are.
pub returns-then-least-n : goal.returns-then-least-n
returns-then-least-n c =
    let a = c.args in
    high_enough a.least a.most c.requires.1 (drop a.c.at a.text.now)
    (number_digit a.text.now a.c.at 0 a.most c.if-text-at.false c.if-b-eq48.false (digit_test _ ∙ sym c.is_ascii_digit.ensures.value ∙ c.if-not-is_ascii_digit.false))
    (is_number a.text.now c.in-Number.is c.digits-any.ensures) c.if-least-n.true

pub returns : goal.returns
returns c =
    let a = c.args in
    rw (number_digit a.text.now a.c.at a.least a.most c.if-text-at.false c.if-b-eq48.false (digit_test _ ∙ sym c.is_ascii_digit.ensures.value ∙ c.if-not-is_ascii_digit.false))
    c.digits.ensures
