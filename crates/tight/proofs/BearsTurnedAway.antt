-- M-113: the wrong programs that are turned away.
use Prim.Native.Nat.{ℕ, ◌<◌}
use mathlib.Core.Path.{◌≡◌, refl, ap}
use mathlib.Core.Bool.{Bool, true, not, ◌&&◌}
use mathlib.Core.List.{List, [], ◌∷◌}
use mathlib.Core.Logic.{◌⊎◌, ⊎_elim}
use native.Mathlib.Omega.{arith}
use Rattle.index.specs.declared.Kind.TheVariants.{Membership}
use Rattle.index.specs.Letters.{right_count, may_have}
use Rattle.index.specs.Block.{number, count_at, count_from, count, Good}
use Rattle.index.proofs.laws.Tests.{both, all_at}
use Rattle.index.proofs.laws.block.GoodTest.{good_test_lem}
use Rattle.rights.specs.Chain.{Chain}
use Rattle.rights.specs.Chain.Chain.{here, through}
use Rattle.rights.specs.Groups.{Member}
use Rattle.rights.specs.Held.{Is, Carries}
use Rattle.rights.specs.Near.{Near, IsNear}
use Rattle.rights.proofs.laws.questions.Nearing.{one_near}
use Rattle.rights.proofs.laws.tests.ChainTest.{not_test, member, carried_to, carried_test}
use Rattle.bearing.specs.Bearing.{Bearing}
use Rattle.bearing.proofs.laws.Asking.{one_bearing}
use Rattle.tight.specs.Blocks.{once, block, nothing}
use Rattle.tight.specs.Bearings.{having, made, shorter, ungranted, steps}
use Rattle.tight.specs.BearPrograms.{BearProgram, BearMeets, RefusesEverything, SaysTheSame, YesWherever, YesOnly, OtherLimit, OtherGrantLimit, OneSide, OtherZero, OtherFilters, OtherRecords, OtherNearLimit, TakesAny, FollowsMarkers}
use Rattle.tight.proofs.BearsTest.{near_test, near_test_lem}
use Rattle.tight.proofs.BearingTable.{shorter_fit, ungranted_fit, memberships_right, grants_right, filters_right, elsewhere_right, onward_right, ended_right, reaches_right}
use Rattle.tight.proofs.NotVacuousBears.{too_far}

-- ---- what is reached, and what is not

near : {b : List ℕ} → Good b → (n x z : ℕ) → near_test n b x z ≡ true → Near n b x z
near g n x z e = (near_test_lem g n x z).0 e

far : {b : List ℕ} → Good b → (n x z : ℕ) → not (near_test n b x z) ≡ true → Near n b x z → ⊥
far {b} g n x z e = (not_test (near_test n b x z) (near_test_lem g n x z)).0 e

-- On the line: 132 by 32 records and not by 30, from the other end not at all; 133 by 33 and by 32, and not by 31.
by_32 : Near 32 (made shorter) 100 132
unfolding number count_at
by_32 = near shorter_fit.1 32 100 132 refl

not_by_30 : Near 30 (made shorter) 101 132 ⊎ Near 30 (made shorter) 133 132 → ⊥
unfolding number count_at
not_by_30 = ⊎_elim (far shorter_fit.1 30 101 132 refl) (far shorter_fit.1 30 133 132 refl)

first_step : Member (made ungranted) 100 101
unfolding Member number count_at count_from count
first_step = (1, omega arith, omega arith)

from_101 : Near 32 (made ungranted) 101 133
unfolding number count_at
from_101 = near ungranted_fit.1 32 101 133 refl

from_100 : Near 33 (made ungranted) 100 133
from_100 = through 101 first_step from_101

not_by_31 : Near 31 (made ungranted) 101 133 → ⊥
unfolding number count_at
not_by_31 = far ungranted_fit.1 31 101 133 refl

-- Where there is one P record and no other, no name is reached from another one.
abbrev alone : ℕ → ℕ → List ℕ
alone x y = made (having [] (once x y 15 ∷ []) [])

one_side : (Near 31 (alone 7 1) 1 9 → ⊥) × (Near 31 (alone 9 2) 9 1 → ⊥)
unfolding number count_at may_have
one_side = (far (good_test_lem (alone 7 1) refl) 31 1 9 refl, far (good_test_lem (alone 9 2) refl) 31 9 1 refl)

-- 2 is a group of 1's, and 7 of 9's.
abbrev grouped : List ℕ
grouped = made (having (once 1 2 15 ∷ once 9 7 15 ∷ []) (once 9 1 2 ∷ []) [])

by_group : Near 32 grouped 9 7 × Near 32 grouped 1 2
unfolding number count_at may_have
by_group = let g = good_test_lem grouped refl in (near g 32 9 7 refl, near g 32 1 2 refl)

-- Name 0 is not reached from 9.
no_zero : Near 32 (made (having [] [] [])) 9 0 → ⊥
unfolding number count_at may_have
no_zero = far (good_test_lem (made (having [] [] [])) refl) 32 9 0 refl

-- By the object's group's group.
by_two : Near 2 (made (having (once 7 6 15 ∷ once 9 7 15 ∷ []) (once 9 1 15 ∷ []) [])) 9 6
unfolding number count_at may_have
by_two = near (good_test_lem (made (having (once 7 6 15 ∷ once 9 7 15 ∷ []) (once 9 1 15 ∷ []) [])) refl) 2 9 6 refl

-- 6 is reached from 1 by no chain that carries a right, nor from 32.
abbrev masked : List ℕ
masked = made (having (once 1 5 1 ∷ once 5 6 2 ∷ once 32 20 15 ∷ []) (once 0 1 15 ∷ []) [])

abbrev bare_test : ℕ → Bool
bare_test k = not (member 6 (carried_to masked k 31 1)) && not (member 6 (carried_to masked k 31 32))

not_carried : (k : ℕ) × (k < right_count) × (Chain (Carries masked k) 31 1 6 ⊎ Chain (Carries masked k) 31 32 6) → ⊥
unfolding number count_at may_have
not_carried (k, small, c) =
    let g = good_test_lem masked refl in
    let p = both (not (member 6 (carried_to masked k 31 1))) _ (all_at bare_test 0 right_count refl k (omega arith) (omega arith)) in
    ⊎_elim ((not_test _ (carried_test masked k g small 31 1 6)).0 p.0) ((not_test _ (carried_test masked k g small 31 32 6)).0 p.1) c

-- The record from 1 to 5 counts X alone, among others and by itself.
counts_x : Is (made (having (once 1 5 256 ∷ []) (once 0 6 15 ∷ []) [])) Membership 1 5 × Is (block (once 1 5 256 ∷ []) [] [] 0) Membership 1 5
unfolding Is number count_at count_from count
counts_x = ((8, omega arith, omega arith), (8, omega arith, omega arith))

-- By two records, and not by one.
two_steps : Near 2 steps 1 3 × (Near 1 steps 1 3 → ⊥)
unfolding number count_at may_have
two_steps = let g = good_test_lem steps refl in (near g 2 1 3 refl, far g 1 1 3 refl)

-- ---- the programs

-- The call says this of some record of the kind.
abbrev Judged : ℕ → ℕ → Type 0
Judged kind answer = (b : List ℕ) × (u : ℕ) × (o : ℕ) × (x : ℕ) × (y : ℕ) × Bearing b u o kind x y (0, answer)

module _ (p : BearProgram) (meets : BearMeets p) where
  gives : {b : List ℕ} {u o kind x y : ℕ} {a : ℕ × ℕ} → Bearing b u o kind x y a → p.bears b u o kind x y ≡ a
  gives {b} {u} {o} {kind} {x} {y} {a} h = one_bearing b u o kind x y (p.bears b u o kind x y) a (meets.bears b u o kind x y) h

  finds : {b : List ℕ} {x z limit : ℕ} {a : ℕ × ℕ} → IsNear b x z limit a → p.near b x z limit ≡ a
  finds {b} {x} {z} {limit} {a} h = one_near b x z limit (p.near b x z limit) a (meets.near b x z limit) h

  pub not_refusing : RefusesEverything p → ⊥
  not_refusing (RefusesEverything.bears r) = omega (arith, rw (gives memberships_right.0.0.0) at (r (alone 9 2) 1 9 1 1 2))
  not_refusing (RefusesEverything.near r) = omega (arith, rw (finds reaches_right.0) at (r steps 1 3 2))

  -- It says yes of one record of the kind, and no of another.
  both_said : (kind answer : ℕ) → Judged kind 1 → Judged kind 0
      → ((b : List ℕ) (u o x y : ℕ) → (p.bears b u o kind x y).0 ≡ 0 → (p.bears b u o kind x y).1 ≡ answer) → ⊥
  both_said kind answer (b, u, o, x, y, told) (b', u', o', x', y', told') same =
      let one = rw (gives told) at (same b u o x y) in
      let none = rw (gives told') at (same b' u' o' x' y') in
      omega (arith, one refl, none refl)

  pub not_the_same : SaysTheSame p → ⊥
  not_the_same (SaysTheSame.memberships answer same) =
      both_said 1 answer (_, _, _, _, _, memberships_right.0.0.0) (_, _, _, _, _, elsewhere_right.0.0.0) same
  not_the_same (SaysTheSame.permissions answer same) =
      both_said 2 answer (_, _, _, _, _, grants_right.0.0.0) (_, _, _, _, _, elsewhere_right.1.1.1.1.0.0.0) same
  not_the_same (SaysTheSame.filters answer same) =
      both_said 3 answer (_, _, _, _, _, filters_right.0.0.0) (_, _, _, _, _, elsewhere_right.1.1.1.1.1.1.1.0.0.0) same
  not_the_same (SaysTheSame.near answer same) =
      let one = rw (finds reaches_right.0) at (same steps 1 3 2) in
      let none = rw (finds reaches_right.1.0) at (same steps 1 3 1) in
      omega (arith, one refl, none refl)

  -- It says no where it would have to say yes, and yes where it would have to say no.
  wherever : {b : List ℕ} {u o kind x y : ℕ} (Way : List ℕ → ℕ → ℕ → ℕ → ℕ → Type 0) → Bearing b u o kind x y (0, 0) → Way b u o x y
      → YesWherever Way kind p → ⊥
  wherever {b} {u} {o} {kind} {x} {y} Way told way wrong =
      let said = rw (gives told) at (wrong b u o x y) in
      omega (arith, said refl way)

  only : {b : List ℕ} {u o kind x y : ℕ} (Way : List ℕ → ℕ → ℕ → ℕ → ℕ → Type 0) → Bearing b u o kind x y (0, 1) → (Way b u o x y → ⊥)
      → YesOnly Way kind p → ⊥
  only {b} {u} {o} {kind} {x} {y} Way told none wrong =
      let way = rw (gives told) at (wrong b u o x y) in
      none (way refl refl)

  pub not_other_limit : OtherLimit p → ⊥
  not_other_limit (OtherLimit.user_32 w) = wherever _ onward_right.1.0.0 by_32 w
  not_other_limit (OtherLimit.object_32 w) = wherever _ onward_right.1.1.1.0.0 by_32 w
  not_other_limit (OtherLimit.only_30 w) = only _ onward_right.0.0 not_by_30 w

  pub not_other_grant_limit : OtherGrantLimit p → ⊥
  not_other_grant_limit (OtherGrantLimit.object_33 w) = wherever _ ended_right.1.0.0 (from_100, from_101) w
  not_other_grant_limit (OtherGrantLimit.user_33 w) = wherever _ ended_right.1.1.0.0 (from_101, from_100) w
  not_other_grant_limit (OtherGrantLimit.only_31 w) = only _ ended_right.0.0 (λ h. not_by_31 h.0) w

  pub both_sides_lem : OneSide p → ⊥
  both_sides_lem (OneSide.user_only w) = only _ memberships_right.1.0.0.0 one_side.0 w
  both_sides_lem (OneSide.object_only w) = only _ memberships_right.0.0.0 one_side.1 w
  both_sides_lem (OneSide.key_enough w) = wherever _ elsewhere_right.1.1.1.1.0.0.0 by_group.0 w
  both_sides_lem (OneSide.id_enough w) = wherever _ elsewhere_right.1.1.1.1.1.1.0.0.0 by_group.1 w

  pub heeds_zero : OtherZero p → ⊥
  heeds_zero (OtherZero.left_out w) = only _ grants_right.1.0.0.0 no_zero w
  heeds_zero (OtherZero.followed w) = wherever _ elsewhere_right.1.0.0.0 refl w

  pub heeds_filters : OtherFilters p → ⊥
  heeds_filters (OtherFilters.own_only w) = only _ filters_right.1.0.0.0 (λ e. omega arith) w
  heeds_filters (OtherFilters.further w) = wherever _ elsewhere_right.1.1.1.1.1.1.1.0.0.0 by_two w

  pub heeds_memberships : OtherRecords p → ⊥
  heeds_memberships (OtherRecords.carried w) = only _ memberships_right.1.1.1.1.1.1.0.0.0 not_carried w
  heeds_memberships (OtherRecords.markers w) = wherever _ elsewhere_right.1.1.0.0.0 (through 5 counts_x.0 here) w

  pub not_other_near_limit : OtherNearLimit p → ⊥
  not_other_near_limit (OtherNearLimit.one_more w) =
      let said = rw (finds reaches_right.1.0) at (w steps 1 3 1) in
      omega (arith, said refl two_steps.0)
  not_other_near_limit (OtherNearLimit.one_fewer w) =
      let way = rw (finds reaches_right.0) at (w steps 1 3 1) in
      two_steps.1 (way refl refl)

  pub not_any : TakesAny p → ⊥
  not_any takes = takes nothing 1 9 33 (ap (λ (a : ℕ × ℕ). a.0) (finds too_far))

  pub follows_no_markers : FollowsMarkers p → ⊥
  follows_no_markers w =
      let said = rw (finds reaches_right.1.1.1.1.1.0) at (w (block (once 1 5 256 ∷ []) [] [] 0) 1 5 32) in
      omega (arith, said refl (through 5 counts_x.1 here))
