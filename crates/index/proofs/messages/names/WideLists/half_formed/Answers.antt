-- A half is tested by its lists, or for having none.
use mathlib.Core.Path.{sym, ◌∙◌}
use lib.Dec.{eqb}
use lib.ListN.{get_or}
use Prim.Native.Nat.{◌+◌}
use Rattle.index.specs.Wide.{mask_in}
use Rattle.index.specs.work.Halves.{half_number}
use Rattle.index.proofs.laws.Answer.{says_same, equal_says}
use Rattle.index.proofs.laws.message.Halves.{differ}
use Rattle.index.proofs.messages.names.WideLists.half_formed.Goals as goal

pub returns : goal.returns
unfolding mask_in
returns c =
    let gone = sym c.is_present.ensures ∙ c.if-is_present.false in
    let n = half_number c.args.h in
    rw c.number.ensures.0
    (says_same (eqb (get_or c.args.self.bytes.now (6 + n) 0) 0)
    (λ z. record {
      absent = λ none. (
        rw (← c.keys_of-keys.ensures.0) (sym c.length_at.ensures.0 ∙ c.if-length_at-ne0.false),
        rw (← c.ids_of-ids.ensures.0) (sym c.length_at-2.ensures.0 ∙ c.if-length_at-ne0-2.false),
        z,
      );
      lists = λ e. absurd (differ (sym e ∙ gone));
    })
    (λ w. (w.absent gone).2) (equal_says (get_or c.args.self.bytes.now (6 + n) 0) 0))
