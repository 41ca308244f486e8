-- The halves that are present: one by itself, or both as two changes.
use mathlib.Core.Path.{sym, ◌∙◌}
use mathlib.Core.Bool.{true, false}
use mathlib.Core.List.{[], ◌∷◌}
use native.Mathlib.Omega.{arith}
use borrow.Author.Tests.{not-true, not-false}
use Rattle.index.proofs.laws.message.Halves.{half_ready, previous_alone, changes_previous, changes_new, changes_both}
use Rattle.index.proofs.laws.message.Packing.{ready_in, each_prepared}
use Rattle.index.proofs.laws.message.Running.{one_carried}
use Rattle.std.proofs.Common.{ap}
use mathlib.Core.Bool.{not}
use Rattle.index.proofs.messages.carry.carry.Goals as goal

pub take_away-requires : goal.take_away-requires
take_away-requires c =
    let no_new = sym c.is_present.ensures ∙ not-true _ (ap not c.if-not-is_present.true) in
    rw c.half_at.ensures.half (half_ready c.requires 0 (omega arith) (previous_alone c.args.m.now c.requires.formed.begun.some_half no_new))

pub returns-then-not-is_present : goal.returns-then-not-is_present
returns-then-not-is_present c =
    let no_new = sym c.is_present.ensures ∙ not-true _ (ap not c.if-not-is_present.true) in
    rw (changes_previous c.args.m.now (previous_alone c.args.m.now c.requires.formed.begun.some_half no_new) no_new, ← c.half_at.ensures.half)
    (one_carried c.take_away.ensures)

pub put_in-requires : goal.put_in-requires
put_in-requires c =
    rw c.half_at-then-not-is_present-2.ensures.half
    (half_ready c.requires 1 (omega arith) (sym c.is_present.ensures ∙ not-false _ (ap not c.if-not-is_present.false)))

pub returns-then-not-is_present-2 : goal.returns-then-not-is_present-2
returns-then-not-is_present-2 c =
    let no_previous = sym c.is_present-2.ensures ∙ not-true _ (ap not c.if-not-is_present-2.true) in
    let the_new = sym c.is_present.ensures ∙ not-false _ (ap not c.if-not-is_present.false) in
    rw (changes_new c.args.m.now no_previous the_new, ← c.half_at-then-not-is_present-2.ensures.half) (one_carried c.put_in.ensures)

pub run_both-requires : goal.run_both-requires
run_both-requires c =
    let s = c in
    let the_previous = sym c.is_present-2.ensures ∙ not-false _ (ap not c.if-not-is_present-2.false) in
    let the_new = sym c.is_present.ensures ∙ not-false _ (ap not c.if-not-is_present.false) in
    each_prepared (c.change_at.result ∷ c.change_at-2.result ∷ []) (
      ready_in false _ c.change_at.ensures (half_ready s.requires 0 (omega arith) the_previous),
      (ready_in true _ c.change_at-2.ensures (half_ready s.requires 1 (omega arith) the_new), tt),
    )

pub returns : goal.returns
returns c =
    let the_previous = sym c.is_present-2.ensures ∙ not-false _ (ap not c.if-not-is_present-2.false) in
    let the_new = sym c.is_present.ensures ∙ not-false _ (ap not c.if-not-is_present.false) in
    rw (changes_both c.args.m.now the_previous the_new, ← c.change_at.ensures, ← c.change_at-2.ensures) c.run_both.ensures
