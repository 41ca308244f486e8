-- `index::text::taking::fill` meets its contract. The loop: laws/text/Entering, `Taking`.
use Prim.Native.Nat.{ℕ, ◌<◌}
use mathlib.Core.Path.{refl, ◌∙◌}
use mathlib.Core.List.{List}
use lib.ListN.{length}
use native.Mathlib.Omega.{arith}
use Rattle.index.specs.declared.Kind.{Kind}
use Rattle.std.specs.Prelude.{Ok}
use Rattle.index.specs.Text.{Entry, Writes}
use Rattle.index.specs.work.Pieces.{Scanned}
use Rattle.index.proofs.laws.text.TextOnce.{scanned_length}
use Rattle.index.proofs.laws.text.Entering.{taking_first, never_wrong, taken_entry, taking_next}
use Rattle.index.proofs.text.taking.fill.Goals as goal

-- There is a record left.
one_left : (kind : Kind) (text : List ℕ) (es : List Entry) {i n : ℕ} → Scanned kind text (Ok n) → Writes kind es text → i < n → i < length es
one_left kind text es {i} {n} s w h = omega (arith, scanned_length kind text n es s w)

pub loop-i-init : goal.loop-i-init
loop-i-init c = (refl, refl, λ es w. taking_first w)

pub returns-in_default : goal.returns-in_default
returns-in_default c es w =
    let r = c.take_record in
    absurd
    (never_wrong (c.loop-i.invariant.2 es w) (one_left _ _ es c.requires.scanned w c.loop-i-test.true) r.result _ r.ensures.sees_entry c.in_default.not-Number)

pub put_entry-requires : goal.put_entry-requires
put_entry-requires c =
    let (es, w, _) = c.requires.scanned in
    let r = c.take_record in
    let e = taken_entry (c.loop-i.invariant.2 es w) (one_left _ _ es c.requires.scanned w c.loop-i-test.true) r.result _ r.ensures.sees_entry c.in-Number.is in
    record {
      key_bound = (c.requires.key_bound.0, omega (arith, e.named), omega (arith, c.loop-i-test.true, c.requires.key_bound.1, c.loop-i.invariant.2));
      counts_len = (c.take_record.ensures.out_len_2, e.fits);
    }

pub loop-i-preserved : goal.loop-i-preserved
loop-i-preserved c = (
  c.take_record.ensures.out_len_2,
  c.put_entry.auto.b ∙ c.loop-i.invariant.1,
  λ es w.
      let r = c.take_record in
      taking_next (c.loop-i.invariant.2 es w) (one_left _ _ es c.requires.scanned w c.loop-i-test.true) r.result _ r.ensures.sees_entry c.in-Number.is c.put_entry.ensures,
)
