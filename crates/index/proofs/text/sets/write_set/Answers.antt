-- `index::text::sets::write_set` meets its contract: the records between the two bounds are the set.
use Prim.Native.Nat.{ℕ, ◌+◌, ◌*◌, ◌-◌}
use mathlib.Core.Path.{◌≡◌, sym, ap, ◌∙◌}
use mathlib.Core.List.{List}
use native.Mathlib.Omega.{arith}
use borrow.Author.Tests.{leb-true, leb-false}
use Rattle.index.specs.declared.Kind.{Kind}
use Rattle.index.specs.Block.{name_count, Good}
use Rattle.index.specs.Message.{kind_of}
use Rattle.index.specs.Text.{text_of, set_of}
use Rattle.index.specs.work.Edits.{Lowest}
use Rattle.index.specs.work.Written.{entries_from}
use Rattle.index.proofs.laws.block.Known.{is_good}
use Rattle.index.proofs.laws.text.SetRange.{set_range}
use Rattle.index.proofs.laws.text.SetCalls.{held, set_held, wrote_refused, wrote_long, wrote_text}
use Rattle.std.proofs.lemmas.Result.{err_from_is_err_and}
use Rattle.index.proofs.text.sets.write_set.Goals as goal

-- The records between the bounds are the set.
module _ {b : List ℕ} (g : Good b) (K : Kind) (y lo hi : ℕ) (low : Lowest b K (name_count * y) lo) (high : Lowest b K (name_count * (y + 1)) hi) where
  the_set : {block : List ℕ} (kind : ℕ) {x : ℕ} → (b ≡ block) × (K ≡ kind_of kind) × (y ≡ x) → text_of (set_of block (kind_of kind) x) ≡ text_of (entries_from b lo (hi - lo))
  the_set kind e = rw (← e.0, ← e.1, ← e.2) (ap text_of (set_range g K y lo hi low high))

pub returns-in_err-good : goal.returns-in_err-good
returns-in_err-good c =
    let a = c.args in
    let r = err_from_is_err_and c.from_residual.result c.from_residual.ensures.1 in
    rw (r.1, r.2) (wrote_refused a.block.now a.kind a.key a.out.now _ c.in_err-good.ensures.number)

pub overflow_mul-key : goal.overflow_mul-key
overflow_mul-key c = omega (arith, (held _ _ _ (set_held _ _ _ c.in_ok-good.ensures.number)).named, c.in_ok-good.ensures.read.2)

pub returns-then-not-fits : goal.returns-then-not-fits
returns-then-not-fits c =
    wrote_long _ _ _ _ (set_held _ _ _ c.in_ok-good.ensures.number) _
    (the_set (is_good c.in_ok-good.good) c.in_ok-good.kind _ _ _ c.place_of-first.ensures c.end_of-end.ensures c.args.kind c.in_ok-good.ensures.read)
    (leb-false _ _ (sym c.fits.ensures ∙ c.if-not-fits.true))

pub returns : goal.returns
returns c =
    let n = c.put_set.ensures.ends in
    let fine = leb-true _ _ (sym c.fits.ensures ∙ c.if-not-fits.false) in
    wrote_text _ _ _ _ (set_held _ _ _ c.in_ok-good.ensures.number) _
    (the_set (is_good c.in_ok-good.good) c.in_ok-good.kind _ _ _ c.place_of-first.ensures c.end_of-end.ensures c.args.kind c.in_ok-good.ensures.read)
    (omega (arith, n)) (omega (arith, n, fine)) c.put_set.ensures.buffer
