-- `index::text::reading::reaches` meets its contract: a step of `reaches` for each way.
use mathlib.Core.Path.{sym, ◌∙◌}
use Rattle.index.proofs.laws.text.ReadSteps.{reaches_high, reaches_now, reaches_last, reaches_on}
use Rattle.index.proofs.text.reading.+reaches.Goals as goal

pub returns-then-most-lo : goal.returns-then-most-lo
returns-then-most-lo t c = sym (reaches_high _ _ c.args.d _ _ c.if-most-lo.true)

pub returns-then-least-hi : goal.returns-then-least-hi
returns-then-least-hi t c = sym (reaches_now _ _ c.args.d _ _ c.if-most-lo.false c.if-least-hi.true)

pub returns-then-d-eq0 : goal.returns-then-d-eq0
returns-then-d-eq0 t c = sym (reaches_last _ _ c.args.d _ _ c.if-least-hi.false c.if-d-eq0.true)

pub returns : goal.returns
returns t c =
    c.reaches.ensures
    ∙ sym (reaches_on _ _ c.args.d _ _ c.if-most-lo.false c.if-least-hi.false c.if-d-eq0.false)
