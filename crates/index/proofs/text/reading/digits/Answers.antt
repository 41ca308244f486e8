-- `index::text::reading::digits` meets its contract: a step of `read_digits` for each way.
use mathlib.Core.Path.{sym, ◌∙◌}
use native.Mathlib.Omega.{arith}
use lib.ListN.{length, drop_of_length-le}
use Rattle.index.proofs.laws.text.Decimal.{digit_test}
use Rattle.index.proofs.laws.text.ReadNumbers.{begins_most}
use Rattle.index.proofs.laws.text.ReadSteps.{digits_end, digits_other, digits_wrong, digits_next}
use Rattle.index.proofs.text.reading.digits.Goals as goal

pub returns-then-not-is_ascii_digit : goal.returns-then-not-is_ascii_digit
returns-then-not-is_ascii_digit c =
    let a = c.args in
    let l = c.loop-at in
    rw
    (sym l.invariant.1
    ∙ digits_other a.text.now l.at a.least a.most l.sum c.loop-at-test.true (digit_test _ ∙ sym c.is_ascii_digit.ensures.value ∙ c.if-not-is_ascii_digit.true))
    (c.ended.ensures a.text.now)

pub returns-then-not-reaches : goal.returns-then-not-reaches
returns-then-not-reaches c =
    let a = c.args in
    let l = c.loop-at in
    sym l.invariant.1
    ∙ digits_wrong a.text.now l.at a.least a.most l.sum c.loop-at-test.true (digit_test _ ∙ sym c.is_ascii_digit.ensures.value ∙ c.if-not-is_ascii_digit.false)
    (sym c.reaches.ensures ∙ c.if-not-reaches.true)

pub loop-at-preserved : goal.loop-at-preserved
loop-at-preserved c =
    let a = c.args in
    let l = c.loop-at in
    let b = sym c.reaches.ensures ∙ c.if-not-reaches.false in (
      begins_most a.least a.most _ b,
      sym (digits_next a.text.now l.at a.least a.most l.sum c.loop-at-test.true (digit_test _ ∙ sym c.is_ascii_digit.ensures.value ∙ c.if-not-is_ascii_digit.false) b)
          ∙ l.invariant.1,
    )

pub returns : goal.returns
returns c =
    let a = c.args in
    let l = c.loop-at in
    let t = a.text.now in
    let e = drop_of_length-le t {i = l.at} (omega arith) ∙ sym (drop_of_length-le t {i = length t} (omega arith)) in
    rw (sym l.invariant.1 ∙ digits_end t l.at a.least a.most l.sum (omega arith), e) (c.ended-2.ensures t)
