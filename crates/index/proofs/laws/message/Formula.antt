-- "For one statement this equals 000's formula.": computed over all 1,024 masks, those with markers too, 135 and 79 among them.
use Prim.Native.Nat.{ℕ, ◌+◌, ◌-◌, ◌/◌, ◌%◌, ◌^◌, ◌<◌}
use mathlib.Core.Path.{◌≡◌, refl}
use mathlib.Core.Bool.{Bool, true, ◌&&◌}
use mathlib.Core.List.{List}
use native.Mathlib.Omega.{arith}
use borrow.Author.Tests.{eqb-true, ltb-true}
use lib.Dec.{eqb, ltb}
use Rattle.index.specs.Letters.{letter_count, right_count, Mask}
use Rattle.index.specs.Block.{NetAt, OneStatement, formula}
use Rattle.index.specs.Message.{Half, Changed, own_count}
use Rattle.index.specs.Message.Change.{add}
use Rattle.index.specs.work.Places.{At}
use Rattle.index.proofs.laws.block.MayHave.{bit_zero}
use Rattle.index.proofs.laws.message.HalfLetters.{change_own}
use Rattle.index.proofs.laws.block.Records.{count_at_lem}
use Rattle.index.proofs.laws.Tests.{both, all, all_at}

-- The formula has right k where the mask has its capital letter and not its small one.
abbrev right : ℕ → ℕ → Bool
right mask k = eqb (formula mask / 2 ^ k % 2) (mask / 2 ^ k % 2 - mask / 2 ^ (k + right_count) % 2)

abbrev agrees : ℕ → Bool
agrees mask = ltb (formula mask) (2 ^ right_count) && all (right mask) 0 right_count

all_agree : all agrees 0 (2 ^ letter_count) ≡ true
all_agree = refl

-- The net mask of the record that one statement left is what the formula gives (`OneDoor.one_net`: it has no other).
pub one_statement : (b : List ℕ) (i mask : ℕ) → mask < 2 ^ letter_count → OneStatement b i mask → Mask (formula mask) (NetAt b i)
one_statement b i mask small once =
    let p = both (ltb (formula mask) (2 ^ right_count)) (all (right mask) 0 right_count) (all_at agrees 0 (2 ^ letter_count) all_agree mask (omega arith) (omega arith)) in (
      ltb-true _ _ p.0,
      λ k h.
          let e : formula mask / 2 ^ k % 2 ≡ mask / 2 ^ k % 2 - mask / 2 ^ (k + right_count) % 2 = eqb-true _ _ (all_at (right mask) 0 right_count p.1 k (omega arith) (omega arith)) in
          let capital = once k (omega arith) in
          let letter = once (k + right_count) (omega arith) in
          ((λ i. (omega arith, omega arith)), (λ n. omega (arith, n.0, n.1))),
    )

-- Such a record is what one statement leaves: its half was added where there was none.
pub one_left : {b b' : List ℕ} (h : Half) (i : ℕ) → Changed (add h) b b' → ((k : ℕ) → k < letter_count → own_count b h k ≡ 0)
    → At b' h.kind h.key h.id i → OneStatement b' i h.mask
unfolding own_count
one_left h i changed missing at k l =
    let own = change_own (add h) k in
    omega (
      arith,
      count_at_lem changed.good h.kind h.key h.id i k at,
      changed.counts h.kind h.key h.id k l,
      missing k l,
      own.0,
      own.1,
      bit_zero k,
    )
