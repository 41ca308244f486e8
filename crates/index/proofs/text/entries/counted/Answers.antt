-- `index::text::entries::counted` meets its contract: a step of `read_letter` for each way.
use mathlib.Core.Path.{◌≡◌, refl, sym, ◌∙◌}
use Rattle.std.specs.Prelude.{Some}
use borrow.Author.Rules.{rules}
use borrow.Author.Tests.{eq-eqb}
use lib.ListN.{get_or}
use Rattle.index.proofs.laws.text.ReadSteps.{letter_end, letter_byte, letter_other}
use Rattle.index.proofs.text.entries.counted.Goals as goal
use Rattle.index.proofs.text.entries.counted.Goals.{else-at-text-via-then-at-text+else-eq, else-at-text-via-else-at-text}

pub returns-then-eq : goal.returns-then-eq
returns-then-eq c may l e =
    let a = c.args in
    let same : Some (get_or a.text.now a.c.at 0) ≡ a.byte = search rules in
    rw (letter_byte a.text.now a.c.at may l c.if-at-text.true (same ∙ e)) c.count.ensures

pub returns-else-at-text : goal.returns-else-at-text
returns-else-at-text c may l e =
    let a = c.args in
    elim c.else-at-text.branch [
      | else-at-text-via-then-at-text+else-eq w ↦ letter_other a.text.now a.c.at may l w.if-at-text.true
          (λ q.
          let b = get_or a.text.now a.c.at 0 in
          let other = rw (e ∙ sym q) at w.if-eq.ensures in
          cc (other, eq-eqb b b refl))
      | else-at-text-via-else-at-text w ↦ letter_end a.text.now a.c.at may l w.if-at-text.false
    ]
