-- `index::text::entries::take_record` meets its contract: `known-record` of laws/text/Scans.
use mathlib.Core.Path.{◌≡◌, sym, ◌∙◌}
use mathlib.Core.List.{List, ◌++◌}
use Prim.Native.Nat.{ℕ}
use lib.ListN.{drop}
use Rattle.index.specs.Text.{entry_text}
use Rattle.index.specs.work.Pieces.{more}
use Rattle.index.specs.work.Reading.{read_mark}
use Rattle.index.specs.work.Reading.Parsed.{got}
use Rattle.index.proofs.laws.text.TakenApart.{not_got}
use Rattle.index.proofs.laws.text.HandedOn.{is_mark, no_mark}
use Rattle.index.proofs.laws.text.Scans.{known_record, known_first, known_mark, mark_there}
use Rattle.index.proofs.text.entries.take_record.Goals as goal

-- In a text that has begun, `;` stands at the cursor: `mark_there` of `known_mark`.
pub returns-in_default-clause-sees_entry : goal.returns-in_default-clause-sees_entry
returns-in_default-clause-sees_entry c e es h q =
    let a = c.args in
    let m = c.mark-sign in
    let t : List ℕ = drop a.c.at a.text.now in
    absurd (not_got
    (sym (no_mark a.text.now m.result _ c.in_default.not-Mark m.ensures).2
    ∙ mark_there t _ (known_mark a.kind e es h t a.begun c.if-begun.true q)))

pub returns-then-begun-clause-sees_entry : goal.returns-then-begun-clause-sees_entry
returns-then-begun-clause-sees_entry c e es h q =
    let a = c.args in
    let t : List ℕ = a.text.now in
    let at : ℕ = c.in-Mark.start.at in
    let m : read_mark (drop a.c.at t) ≡ got 59 (drop at t) = is_mark t c.in-Mark.is c.mark-sign.ensures in
    let k = mark_there (drop a.c.at t) _ (known_mark a.kind e es h (drop a.c.at t) a.begun c.if-begun.true q) in
    let r : drop at t ≡ entry_text e ++ more es = cc in
    rw (← known_record a.kind e es h (drop at t) r) c.read_record.ensures.sees_entry

pub returns-clause-sees_entry : goal.returns-clause-sees_entry
returns-clause-sees_entry c e es h q =
    let a = c.args in
    let t : List ℕ = drop a.c.at a.text.now in
    rw (← known_first a.kind e es h t a.begun c.if-begun.false q) c.read_record-2.ensures.sees_entry
