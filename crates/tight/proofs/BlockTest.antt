-- A test of a block that computes: what it says yes to has an allowed length and is good.
use Prim.Native.Nat.{ℕ}
use mathlib.Core.Path.{◌≡◌}
use mathlib.Core.Bool.{Bool, true, ◌&&◌}
use mathlib.Core.List.{List}
use borrow.Author.Tests.{leb-true}
use lib.Dec.{leb}
use lib.ListN.{length}
use Rattle.index.specs.Block.{header_length, greatest_length, Sized, Good}
use Rattle.index.proofs.laws.Tests.{both}
use Rattle.index.proofs.laws.block.GoodTest.{good_test, good_test_lem}

abbrev pub block_test : List ℕ → Bool
block_test b = leb header_length (length b) && (leb (length b) greatest_length && good_test b)

pub block_test_lem : (b : List ℕ) → block_test b ≡ true → Sized b × Good b
unfolding Sized
block_test_lem b e =
    let p = both (leb header_length (length b)) _ e in
    let q = both (leb (length b) greatest_length) (good_test b) p.1 in
    ((leb-true _ _ p.0, leb-true _ _ q.0), good_test_lem b q.1)
