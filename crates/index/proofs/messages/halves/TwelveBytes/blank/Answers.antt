-- A half that is absent has its five bytes tested, one after the other.
use mathlib.Core.Path.{sym, ◌∙◌}
use native.Mathlib.Omega.{arith}
use Rattle.index.specs.Message.{Blank}
use Rattle.index.proofs.messages.halves.TwelveBytes.blank.Goals as goal

pub returns-then-self-i-ne0 : goal.returns-then-self-i-ne0
unfolding Blank
returns-then-self-i-ne0 c =
    λ z. c.if-self-i-ne0.true (rw c.number.ensures.0 (z (sym c.is_present.ensures ∙ c.if-is_present.false) c.loop-j.j (omega arith)))

pub returns : goal.returns
unfolding Blank
returns c = λ n j h. rw (← c.number.ensures.0) (c.loop-j.invariant j (omega arith))
