-- The mask of a half, where it is present.
use mathlib.Core.Path.{sym, ◌∙◌}
use borrow.Author.Tests.{not-true, not-false}
use Rattle.index.specs.Message.{Masked}
use Rattle.index.specs.work.Halves.{half_number}
use Rattle.index.proofs.laws.message.Halves.{not_there, each_says}
use Rattle.std.proofs.Common.{ap}
use mathlib.Core.Bool.{not}
use Rattle.index.proofs.messages.halves.TwelveBytes.mask_good.Goals as goal

pub returns-then-not-is_present : goal.returns-then-not-is_present
returns-then-not-is_present c =
    let a = c.args in
    rw (not_there a.self.bytes.now (half_number a.h) (sym c.is_present.ensures ∙ not-true _ (ap not c.if-not-is_present.true))) tt

pub returns : goal.returns
returns c =
    let a = c.args in
    each_says a.self.bytes.now Masked (half_number a.h) c.is_masked.result (sym c.is_present.ensures ∙ not-false _ (ap not c.if-not-is_present.false)) c.half_at.ensures.half c.is_masked.ensures
