-- `index::text::reading::mark` meets its contract: a step of `read_mark` for each way.
use Rattle.index.proofs.laws.text.ReadSteps.{mark_end, mark_there, mark_none}
use Rattle.index.proofs.text.reading.mark.Goals as goal
use Rattle.index.proofs.text.reading.mark.Goals.{else-at-text-via-then-at-text+else-text-at-eq59, else-at-text-via-else-at-text}

pub returns-then-text-at-eq59 : goal.returns-then-text-at-eq59
returns-then-text-at-eq59 c = mark_there c.args.text.now c.args.c.at c.if-at-text.true c.if-text-at-eq59.true

pub returns-else-at-text : goal.returns-else-at-text
returns-else-at-text c =
    let a = c.args in
    elim c.else-at-text.branch [
      | else-at-text-via-then-at-text+else-text-at-eq59 w ↦ mark_none a.text.now a.c.at w.if-at-text.true w.if-text-at-eq59.false
      | else-at-text-via-else-at-text w ↦ mark_end a.text.now a.c.at w.if-at-text.false
    ]
