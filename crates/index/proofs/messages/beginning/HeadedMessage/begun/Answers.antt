-- Kind, flags and the markers of each half.
use mathlib.Core.Path.{sym, ◌∙◌}
use native.Mathlib.Omega.{arith}
use Rattle.index.specs.Message.{kind_of, kind_in, flags, present, markers, Marked}
use Rattle.index.proofs.laws.Answer.{says_same}
use Rattle.index.proofs.laws.message.Halves.{each_half}
use Rattle.index.proofs.laws.message.KindRead.{read_none, read_some}
use Rattle.index.proofs.messages.beginning.HeadedMessage.begun.Goals as goal

pub returns-then-is_err : goal.returns-then-is_err
returns-then-is_err c = λ w. read_none _ _ c.try_from.ensures (sym c.is_err.ensures.value ∙ c.if-is_err.true) (rw c.kind_in.ensures.0 w.kind)

pub returns-then-flags-lt1 : goal.returns-then-flags-lt1
unfolding flags
returns-then-flags-lt1 c = λ w. omega (arith, w.some_half)

pub returns-then-flags-gt3 : goal.returns-then-flags-gt3
unfolding flags
returns-then-flags-gt3 c = λ w. omega (arith, w.some_half)

pub returns : goal.returns
unfolding flags
returns c =
    let m = c.args.self.bytes.now in
    says_same c.markers_good-2.result
    (λ second.
    record {
      kind = rw c.kind_in.ensures.0 at (read_some _ _ c.try_from.ensures (sym c.is_err.ensures.value ∙ c.if-is_err.false));
      some_half = omega arith;
      marked = each_half (λ h. Marked (markers m h) (kind_of (kind_in m)) (present m h)) c.if-not-markers_good.ensures second;
    })
    (λ w. w.marked 1 (omega arith))
    c.markers_good-2.ensures
