-- `walk::side` meets its contract: one mark has all rights at the start, whose name alone is on the list, and the rounds follow.
use Rattle.std.proofs.Common.{ℕ, replicate, length-set, refl, sym, subst, ◌∙◌}
use lib.ListN.{length-replicate}
use Rattle.index.specs.Letters.{all_rights}
use Rattle.index.specs.Block.{name_count, IsName}
use Rattle.rights.specs.work.Marks.{Marks}
use Rattle.rights.specs.work.Fronts.{Front}
use Rattle.rights.proofs.laws.walk.MarksAreChains.{first, first_mask}
use Rattle.rights.proofs.laws.held.Sides.{start_front, start_settled, walked_side, walked_count}
use Rattle.rights.proofs.walk.side.Goals as goal

-- Cleared marks with the start's are marks.
start_marks : (start : ℕ) → IsName start → Marks (first start)
start_marks start h = record {
  names = length-set (replicate name_count 0) start all_rights ∙ length-replicate {A = ℕ} name_count 0;
  small = λ z. (first_mask start h z).0;
}

pub rounds-requires-clause-marks : goal.rounds-requires-clause-marks
rounds-requires-clause-marks c = (rw c.requires.marks (start_marks c.args.start c.requires.start.0), refl)

pub rounds-requires-clause-front : goal.rounds-requires-clause-front
rounds-requires-clause-front c =
    let start = c.args.start in
    let clear = c.requires.marks in (
      rw clear (subst (Front _ _) (sym (rw c.clear.ensures at c.put.ensures)) (start_front start c.requires.start.0)),
      rw clear (start_settled c.args.source.now.block.bytes.now c.args.carry start),
    )

pub returns-clause-side : goal.returns-clause-side
returns-clause-side c =
    walked_side c.args.carry c.args.start c.requires.start.0 (rw c.requires.marks at c.rounds.ensures.walked)

pub returns-clause-count : goal.returns-clause-count
returns-clause-count c =
    walked_count c.args.carry c.args.start c.requires.start.0 (rw c.requires.marks at c.rounds.ensures.walked)
