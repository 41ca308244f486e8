-- M-107: two programs that are turned away, one that pays no heed to markers, and one that keeps them as they were.
use Prim.Native.Nat.{ℕ, ◌<◌}
use mathlib.Core.Path.{◌≡◌, refl, ap}
use mathlib.Core.Bool.{Bool, true}
use mathlib.Core.List.{List, [], ◌∷◌}
use native.Mathlib.Omega.{arith}
use borrow.Author.Tests.{eqb-true}
use lib.Dec.{eqb}
use Rattle.index.specs.declared.Kind.TheVariants.{Membership, Permission, Filter}
use Rattle.index.specs.Letters.{marker_x, may_have}
use Rattle.index.specs.Block.{number, count_at, count_from, count}
use Rattle.index.specs.Wide.Sent.{wide}
use Rattle.index.specs.Calls.{Sends}
use Rattle.index.proofs.laws.Tests.{all, all_at}
use Rattle.index.proofs.laws.block.Masks.{in_zero}
use Rattle.rights.specs.Questions.{Full, Short}
use Rattle.rights.proofs.laws.questions.ShortAgrees.{short_yes, short_no}
use Rattle.tight.specs.Blocks.{once, block, nothing}
use Rattle.tight.specs.Examples.{InEach, member, give_x, give_wide_x}
use Rattle.tight.specs.Programs.{Program, Meets, SameLetters, IgnoresMarkers, KeepsMarkers}
use Rattle.tight.proofs.Mill.{x_given}
use Rattle.tight.proofs.Starred.{wides_right}
use Rattle.tight.proofs.Programs.{does, answers, says}
use Rattle.tight.proofs.RightsTest.{rights_test_lem}

-- 1 is in the group 10 and 32 in another; with X, 10 is hers.
abbrev firm : ℕ → List ℕ
firm mask = block (once 1 10 mask ∷ once 32 20 15 ∷ []) (once 0 1 15 ∷ []) [] 0

shut : InEach (λ p. Full (firm 271) 1 32 15 p (0, 0, 1, 1))
unfolding number count_at may_have
shut = rights_test_lem (firm 271) 1 0 32 1 1 (refl, refl, refl)

unbound : InEach (λ p. Full (firm 15) 1 32 15 p (0, 15, 1, 1))
unfolding number count_at may_have
unbound = rights_test_lem (firm 15) 1 15 32 1 1 (refl, refl, refl)

-- The first n letters count the same in two blocks, record by record.
module _ (b b' : List ℕ) (n : ℕ) where
  abbrev same_test : ℕ → ℕ → Bool
  same_test i k = eqb (count_at b i k) (count_at b' i k)

  abbrev pub Same : ℕ → Type 0
  Same i = all (same_test i) 0 n ≡ true

  pub same_at : (i : ℕ) → Same i → (k : ℕ) → k < n → count_at b i k ≡ count_at b' i k
  same_at i e k l = eqb-true _ _ (all_at (same_test i) 0 n e k (omega arith) (omega arith))

three : Same (firm 271) (firm 15) marker_x 0 × Same (firm 271) (firm 15) marker_x 1 × Same (firm 271) (firm 15) marker_x 2
unfolding number count_at
three = (refl, refl, refl)

same_letters : SameLetters (firm 271) (firm 15)
unfolding number count_from count
same_letters Membership x y k l = rw (same_at (firm 271) (firm 15) marker_x 0 three.0 k l, same_at (firm 271) (firm 15) marker_x 1 three.1 k l)
same_letters Permission x y k l = rw (same_at (firm 271) (firm 15) marker_x 2 three.2 k l)
same_letters Filter x y k l = refl

-- The short question for all four rights, on both.
no_answer : InEach (λ p. Short (firm 271) 1 32 15 p (0, 0))
no_answer p is = short_no (firm 271) 1 32 15 p 0 1 1 (shut p is) 15 (omega arith) (omega arith) 0 (omega arith) refl refl (in_zero 0)

yes_answer : InEach (λ p. Short (firm 15) 1 32 15 p (0, 1))
yes_answer p is = short_yes (firm 15) 1 32 15 p 15 1 1 (unbound p is) 15 (omega arith) (omega arith) (λ k h i. i)

wide_x : Sends nothing (wide give_wide_x) (0, member 1 1 0)
wide_x = wides_right.1.1.1.1.1.1.1.1.0

module _ (p : Program) (meets : Meets p) where
  pub heeds_markers : IgnoresMarkers p → ⊥
  heeds_markers (IgnoresMarkers.full q is same) =
      let e = same (firm 271) (firm 15) same_letters 1 32 15 in
      omega (arith, ap (λ (a : ℕ × ℕ × ℕ × ℕ). a.1) (answers p meets (shut q is)), ap (λ (a : ℕ × ℕ × ℕ × ℕ). a.1) (answers p meets (unbound q is)))
  heeds_markers (IgnoresMarkers.short q is same) =
      let e = same (firm 271) (firm 15) same_letters 1 32 15 in
      omega (arith, ap (λ (a : ℕ × ℕ). a.1) (says p meets (no_answer q is)), ap (λ (a : ℕ × ℕ). a.1) (says p meets (yes_answer q is)))

  pub takes_markers : KeepsMarkers p → ⊥
  unfolding number count_at count_from count
  takes_markers (KeepsMarkers.messages keeps) =
      let e = rw (does p meets x_given) at (keeps nothing give_x 1 10 marker_x (omega arith) (omega arith)) in
      omega (arith, e)
  takes_markers (KeepsMarkers.wides keeps) =
      let e = rw (does p meets wide_x) at (keeps nothing give_wide_x 1 10 marker_x (omega arith) (omega arith)) in
      omega (arith, e)
