-- `index::text::scanning::scan_text` meets its contract. The loop: laws/text/Scans, `Turn`.
use Prim.Native.Nat.{ℕ, ◌+◌, ◌<◌, ◌-◌}
use mathlib.Core.Path.{◌≡◌, refl, sym, ap, ◌∙◌, subst}
use mathlib.Core.List.{List}
use lib.ListN.{length, drop}
use native.Mathlib.Omega.{arith}
use Rattle.index.specs.declared.Kind.{Kind}
use Rattle.index.specs.declared.text.reading.Cursor.{Cursor}
use Rattle.index.specs.declared.text.reading.Piece.{Piece}
use Rattle.index.specs.declared.text.reading.Piece.TheVariants.{Wrong}
use Rattle.std.specs.Prelude.{Err}
use Rattle.index.specs.work.Pieces.{place_in, Scanned}
use Rattle.index.proofs.laws.text.Scans.{Turn, Refused, no_text, turn_first, turn_wrong, turn_last, turn_no_mark, turn_full, turn_next}
use Rattle.index.proofs.laws.text.HandedOn.{is_mark, is_entry, no_mark, no_entry}
use Rattle.index.proofs.text.scanning.scan_text.Goals as goal

-- A wrong piece, whose place is the text's.
refused_so : (kind : Kind) (text : List ℕ) (p : Piece) (c : Cursor) (n : ℕ) → p ≡ Wrong c → n ≡ length text - length (drop (place_in p) text)
    → Refused kind text (length text - length (drop c.at text)) → Scanned kind text (Err n)
refused_so kind text p c n e h none =
    subst (Refused kind text) (sym (h ∙ ap (λ (q : Piece). length text - length (drop (place_in q) text)) e)) none

pub returns-then-text-eq0 : goal.returns-then-text-eq0
returns-then-text-eq0 c = no_text c.args.text.now c.args.kind c.if-text-eq0.true

pub loop-name-init : goal.loop-name-init
loop-name-init c =
    let h = c.if-text-eq0.false in (refl, turn_first c.args.text.now c.args.kind (omega arith))

pub returns-in_default : goal.returns-in_default
returns-in_default c =
    let l = c.loop-name in
    let t : List ℕ = c.args.text.now in
    let r = c.read_record-entry in
    let w = no_entry t _ r.result _ c.in_default.not-Number r.ensures.sees_entry in
    refused_so c.args.kind t _ _ _ w.1 c.place_of.ensures (turn_wrong t c.args.kind l.here.at l.least l.n l.invariant.1 _ w.2)

pub returns-then-text-at : goal.returns-then-text-at
returns-then-text-at c =
    let l = c.loop-name in
    let t : List ℕ = c.args.text.now in
    let r = c.read_record-entry in
    let read = is_entry t c.in-Number.is r.ensures.sees_entry in
    turn_last t c.args.kind l.here.at l.least l.n l.invariant.1 _ c.in-Number.next.at read c.if-text-at.true

pub returns-then-name-eq-GREATEST_NAME : goal.returns-then-name-eq-GREATEST_NAME
returns-then-name-eq-GREATEST_NAME c =
    let l = c.loop-name in
    let t : List ℕ = c.args.text.now in
    let r = c.read_record-entry in
    let read = is_entry t c.in-Number.is r.ensures.sees_entry in
    turn_full t c.args.kind l.here.at l.least l.n l.invariant.1 _ c.in-Number.next.at read c.if-text-at.false c.if-name-eq-GREATEST_NAME.true

pub returns-in_default-mark : goal.returns-in_default-mark
returns-in_default-mark c =
    let l = c.loop-name in
    let t : List ℕ = c.args.text.now in
    let r = c.read_record-entry in
    let read = is_entry t c.in-Number.is r.ensures.sees_entry in
    let w = no_mark t c.mark.result _ c.in_default-mark.not-Mark c.mark.ensures in
    turn_no_mark t c.args.kind l.here.at l.least l.n l.invariant.1 _ c.in-Number.next.at read _ c.if-text-at.false w.2

-- ---- and a `;` after it
next_turn : (c : goal.In-Mark)
    → Turn c.args.text.now c.args.kind c.in-Mark.start.at (c.in-Number.name + 1) (c.loop-name.n + 1)
    × (length c.args.text.now - c.in-Mark.start.at < length c.args.text.now - c.loop-name.here.at)
next_turn c =
    let l = c.loop-name in
    let t : List ℕ = c.args.text.now in
    let r = c.read_record-entry in
    let read = is_entry t c.in-Number.is r.ensures.sees_entry in
    turn_next t c.args.kind l.here.at l.least l.n l.invariant.1 _ c.in-Number.next.at read _ c.in-Mark.start.at c.if-name-eq-GREATEST_NAME.false
    (is_mark t c.in-Mark.is c.mark.ensures)

pub overflow_add-least : goal.overflow_add-least
overflow_add-least c = omega (arith, (next_turn c).0.small)

pub loop-name-smaller : goal.loop-name-smaller
loop-name-smaller c = (next_turn c).1

pub loop-name-preserved : goal.loop-name-preserved
loop-name-preserved c = (c.read_record-entry.ensures.out_len_2, (next_turn c).0)
