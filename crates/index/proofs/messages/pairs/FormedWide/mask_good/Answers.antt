-- The mask of a half, where it is present, is that of each of its pairs.
use mathlib.Core.Path.{sym, subst, ◌∙◌}
use borrow.Author.Tests.{not-true, not-false}
use Rattle.index.specs.Message.{Masked}
use Rattle.index.specs.work.Halves.{half_number}
use Rattle.index.proofs.laws.Answer.{says_same}
use Rattle.index.proofs.laws.message.WideKnown.{is_formed}
use Rattle.index.proofs.laws.message.Halves.{half_below}
use Rattle.index.proofs.laws.message.EveryPair.{no_pairs, pairs_masked}
use Rattle.std.proofs.Common.{ap}
use mathlib.Core.Bool.{not}
use Rattle.index.proofs.messages.pairs.FormedWide.mask_good.Goals as goal

pub returns-then-not-is_present : goal.returns-then-not-is_present
returns-then-not-is_present c =
    let s = c in
    rw (no_pairs s.args.self.bytes.now (is_formed s.args.self) (half_number s.args.h) (half_below s.args.h) (sym c.is_present.ensures ∙ not-true _ (ap not c.if-not-is_present.true))) tt

pub returns : goal.returns
unfolding Masked
returns c =
    let s = c in
    let masked = pairs_masked s.args.self.bytes.now (is_formed s.args.self) (half_number s.args.h) (half_below s.args.h) (sym c.is_present.ensures ∙ not-false _ (ap not c.if-not-is_present.false)) in
    says_same c.is_masked.result (λ p. masked.1 (subst Masked c.pair_with.ensures.half p)) (λ all. subst Masked (sym c.pair_with.ensures.half) (masked.0 all)) c.is_masked.ensures
