-- The block by its length and its goodness.
use mathlib.Core.Path.{refl}
use mathlib.Core.Logic.{inl, inr}
use native.Mathlib.Omega.{arith}
use Rattle.index.specs.Block.{Sized}
use Rattle.index.specs.Calls.{block_needs}
use Rattle.index.proofs.block.checks.tested.Goals as goal

pub returns-then-b-lt-HEADER : goal.returns-then-b-lt-HEADER
unfolding block_needs Sized
returns-then-b-lt-HEADER c = inl (λ s. omega arith, refl)

pub returns-then-b-gt-GREATEST : goal.returns-then-b-gt-GREATEST
unfolding block_needs Sized
returns-then-b-gt-GREATEST c = inl (λ s. omega arith, refl)

pub returns-then-not-good : goal.returns-then-not-good
unfolding block_needs Sized
returns-then-not-good c = inr (omega arith, inl (c.if-not-good.ensures, refl))

pub returns : goal.returns
unfolding block_needs Sized
returns c = inr (omega arith, inr (c.if-not-good.ensures, refl))
