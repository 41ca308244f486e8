-- The kind of a change and its markers.
use mathlib.Core.Path.{sym, ap, ◌∙◌}
use Rattle.index.specs.Message.{Half, PackedWell}
use Rattle.index.proofs.laws.Answer.{says_same}
use Rattle.index.proofs.laws.message.KindRead.{read_none, read_some}
use Rattle.index.proofs.messages.lists.is_formed.Goals as goal

pub returns-then-is_err : goal.returns-then-is_err
unfolding PackedWell
returns-then-is_err c = λ w. read_none _ _ c.try_from.ensures (sym c.is_err.ensures.value ∙ c.if-is_err.true) (rw c.kind_number_in-kind.ensures w.0)

pub returns : goal.returns
unfolding PackedWell
returns c =
    let k = read_some _ _ c.try_from.ensures (sym c.is_err.ensures.value ∙ c.if-is_err.false) in
    let mask = ap (λ (h : Half). h.mask) c.half_in.ensures in
    says_same c.is_marked.result
    (λ m. (rw c.kind_number_in-kind.ensures at k, rw (c.kind_number_in-kind.ensures, c.markers_in.ensures, mask) at m))
    (λ w. rw (c.kind_number_in-kind.ensures, c.markers_in.ensures, mask) w.1) c.is_marked.ensures
