-- `index::text::reading::count` meets its contract: a step of `read_count` for each way.
use mathlib.Core.Path.{sym, ◌∙◌}
use Rattle.index.proofs.laws.text.Decimal.{digit_test}
use Rattle.index.proofs.laws.text.ReadSteps.{count_end, count_none, count_number}
use Rattle.index.proofs.text.reading.count.Goals as goal

pub returns-then-text-at : goal.returns-then-text-at
returns-then-text-at c =
    let a = c.args in count_end a.text.now a.c.at c.if-text-at.true

pub returns-then-is_ascii_digit : goal.returns-then-is_ascii_digit
returns-then-is_ascii_digit c =
    let a = c.args in
    rw (count_number a.text.now a.c.at c.if-text-at.false (digit_test _ ∙ sym c.is_ascii_digit.ensures.value ∙ c.if-is_ascii_digit.true)) c.number.ensures

pub returns-else-is_ascii_digit : goal.returns-else-is_ascii_digit
returns-else-is_ascii_digit c =
    let a = c.args in
    count_none a.text.now a.c.at c.if-text-at.false (digit_test _ ∙ sym c.is_ascii_digit.ensures.value ∙ c.if-is_ascii_digit.false)
