-- No text of so many records is longer, or it was measured.
use Prim.Native.Nat.{◌-◌}
use mathlib.Core.Path.{sym}
use native.Mathlib.Omega.{arith}
use lib.ListN.{length}
use borrow.Author.Tests.{le-leb}
use Rattle.index.specs.Text.{text_of}
use Rattle.index.specs.work.Written.{entries_from}
use Rattle.index.proofs.laws.block.Known.{is_good, is_sized}
use Rattle.index.proofs.laws.block.Records.{few_records}
use Rattle.index.proofs.laws.text.TextBound.{entries_bound}
use Rattle.index.proofs.block.good.GoodBlock.fits.Goals as goal

pub overflow_mul-end : goal.overflow_mul-end
overflow_mul-end c = omega (arith, c.requires.1, few_records (is_sized c.args.self) (is_good c.args.self))

pub returns-then-end-first : goal.returns-then-end-first
returns-then-end-first c =
    let args = c.args in
    let b = args.self.bytes.now in
    let p = c.requires in
    let bound = entries_bound (is_good c.args.self) args.first (args.end - args.first) (omega (arith, p.0, p.1)) in
    sym (le-leb (length (text_of (entries_from b args.first (args.end - args.first)))) args.n (omega (arith, bound, c.if-end-first.true)))
