-- `index::text::entries::read_record` meets its contract: with each piece, what is left of `read_record`.
use Prim.Native.Nat.{ℕ}
use mathlib.Core.Path.{◌≡◌, sym, ap, ◌∙◌}
use mathlib.Core.Bool.{cond}
use mathlib.Core.List.{List}
use lib.Dec.{ltb}
use Rattle.index.specs.declared.Kind.{Kind}
use Rattle.index.specs.Block.{greatest_name}
use Rattle.index.specs.Letters.{letters}
use Rattle.index.specs.Text.{Entry}
use Rattle.index.specs.work.Reading.{Parsed, and_then, total, read_number, read_mark, read_counts, read_letters, read_after_id, read_record}
use Rattle.index.specs.work.Reading.Parsed.{got, wrong}
use Rattle.index.proofs.laws.text.HandedOn.{is_number, is_mark, are_letters, no_number, no_mark, no_letters, wrong_entry}
use Rattle.index.proofs.text.entries.read_record.Goals as goal

-- ---- what is left to read after each piece
-- What comes of the counts: a record, if one is above zero.
abbrev entry : ℕ → List ℕ → List ℕ → Parsed Entry
entry n cs r = cond (ltb 0 (total cs)) (got (record { id = n; counts = cs }) r) (wrong r)

module _ (kind : Kind) (least : ℕ) (t : List ℕ) {n : ℕ} {r : List ℕ} (e : read_number least greatest_name t ≡ got n r) where
  id_read : read_record kind least t ≡ read_after_id kind n r
  unfolding read_record
  id_read = ap (λ x. and_then x (read_after_id kind)) e

  module _ {m : ℕ} {s : List ℕ} (f : read_mark r ≡ got m s) where
    mark_read : read_record kind least t ≡ read_letters kind n s
    mark_read = id_read ∙ ap (λ x. and_then x (λ m r. read_letters kind n r)) f

    counts_read : {cs u : List ℕ} → read_counts kind 0 letters s ≡ got cs u → read_record kind least t ≡ entry n cs u
    counts_read g = mark_read ∙ ap (λ x. and_then x (entry n)) g

-- ---- the needs
pub returns-in_default : goal.returns-in_default
unfolding read_record
returns-in_default c =
    let t : List ℕ = c.args.text.now in
    let p = c.number-id in
    record {
      out_len_2 = c.requires.out_len.0;
      sees_entry = wrong_entry t c.args.out.now p.result _ (no_number t p.result _ c.in_default.not-Number p.ensures);
    }

pub returns-in_default-sign : goal.returns-in_default-sign
returns-in_default-sign c =
    let t : List ℕ = c.args.text.now in
    let p = c.mark-sign in
    record {
      out_len_2 = c.requires.out_len.0;
      sees_entry = rw (id_read _ _ _ (is_number t c.in-Number.is c.number-id.ensures))
          (wrong_entry t c.args.out.now p.result _ (no_mark t p.result _ c.in_default-sign.not-Mark p.ensures));
    }

pub returns-in_default-pieces : goal.returns-in_default-pieces
returns-in_default-pieces c =
    let t : List ℕ = c.args.text.now in
    let p = c.counts-pieces in
    let o : List ℕ = p.new.out in
    record {
      out_len_2 = p.ensures.out_len_2;
      sees_entry = rw (mark_read _ _ _ (is_number t c.in-Number.is c.number-id.ensures) (is_mark t c.in-Mark.is c.mark-sign.ensures))
          (wrong_entry t o p.result _ (no_letters t o p.result _ c.in_default-pieces.not-Letters p.ensures.sees_letters));
    }

pub returns-then-is_counted-clause-sees_entry : goal.returns-then-is_counted-clause-sees_entry
returns-then-is_counted-clause-sees_entry c =
    let t : List ℕ = c.args.text.now in
    counts_read _ _ _
    (is_number t c.in-Number.is c.number-id.ensures)
    (is_mark t c.in-Mark.is c.mark-sign.ensures)
    (are_letters t c.in-Letters.is c.counts-pieces.ensures.sees_letters)
    ∙ simp (sym c.is_counted.ensures ∙ c.if-is_counted.true)

pub returns-else-is_counted-clause-sees_entry : goal.returns-else-is_counted-clause-sees_entry
returns-else-is_counted-clause-sees_entry c =
    let t : List ℕ = c.args.text.now in
    counts_read _ _ _
    (is_number t c.in-Number.is c.number-id.ensures)
    (is_mark t c.in-Mark.is c.mark-sign.ensures)
    (are_letters t c.in-Letters.is c.counts-pieces.ensures.sees_letters)
    ∙ simp (sym c.is_counted.ensures ∙ c.if-is_counted.false)
