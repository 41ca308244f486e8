-- A block of a right length is made empty.
use mathlib.Core.Path.{refl}
use mathlib.Core.Logic.{inl, inr}
use native.Mathlib.Omega.{arith}
use Rattle.index.specs.Block.{Sized}
use Rattle.index.specs.Calls.{make_needs, Makes}
use Rattle.index.proofs.laws.block.Empty.{empty_good, empty_length, empty_records}
use Rattle.index.proofs.block.making.make.Goals as goal

pub returns-then-end-lt-HEADER : goal.returns-then-end-lt-HEADER
unfolding Makes make_needs Sized
returns-then-end-lt-HEADER c = inl (λ s. omega arith, refl)

pub returns-then-end-gt-GREATEST : goal.returns-then-end-gt-GREATEST
unfolding Makes make_needs Sized
returns-then-end-gt-GREATEST c = inl (λ s. omega arith, refl)

pub returns : goal.returns
unfolding Makes make_needs Sized
returns c =
    let if1 = c.if-end-lt-HEADER in
    let w = c.clear.ensures in
    let h = c.put_header.ensures in
    inr (
      omega arith,
      (refl, empty_good if1.false w h (λ t. omega (arith, c.type_inv.block t)), empty_length if1.false w h, empty_records if1.false w h),
    )
