-- M-111: the wrong programs that are turned away.
use Prim.Native.Nat.{ℕ, suc}
use mathlib.Core.Path.{◌≡◌, refl, ap}
use mathlib.Core.Bool.{true, not}
use mathlib.Core.List.{List}
use native.Mathlib.Omega.{arith}
use Rattle.index.specs.Letters.{may_have}
use Rattle.index.specs.Block.{number, count_at}
use Rattle.index.proofs.laws.block.GoodTest.{good_test_lem}
use Rattle.index.proofs.laws.block.Masks.{mask_one}
use Rattle.rights.specs.declared.Profile.TheVariants.{Ordinary}
use Rattle.rights.specs.Groups.{Open}
use Rattle.rights.specs.HeldTo.{HeldTo}
use Rattle.rights.specs.Held.{chain_limit}
use Rattle.rights.specs.Questions.{Limited}
use Rattle.rights.proofs.laws.questions.Limits.{accepted_within, one_held_to}
use Rattle.rights.proofs.laws.tests.ChainTest.{not_test}
use Rattle.rights.proofs.laws.tests.OpenTest.{open_test, open_test_lem}
use Rattle.plain.proofs.laws.EnginesAgree.{one_plain}
use Rattle.tight.specs.Blocks.{nothing, reads}
use Rattle.tight.specs.Examples.{far}
use Rattle.tight.specs.Limits.{Engine, Promises, up, crowd}
use Rattle.tight.specs.LimitPrograms.{LimitProgram, LimitMeets, RefusesEverything, GrantsTheSame, HoldsTo, StaysAt32, OneMore, OpensTo, MarkersStayAt32, OneMoreMarker, TakesAny}
use Rattle.tight.proofs.LimitTable.{direct_right, carried_right, marked_right, further_right, crowded_right}

-- No second answer meets the promise of either engine.
pub one_promised : (e : Engine) (b : List ℕ) (u o request limit : ℕ) (a c : ℕ × ℕ) → Promises e b u o request limit a
    → Promises e b u o request limit c → a ≡ c
one_promised Engine.plain b u o request limit = one_plain b u o request limit
one_promised Engine.walk b u o request limit = one_held_to b u o request limit

-- R by the chain of 2 records, with the limits 2 and 32.
by_two : Limited Ordinary 2 (up 2) 100 9 15 2 × Limited Ordinary chain_limit (up 2) 100 9 15 2
unfolding HeldTo
by_two = (
  (accepted_within (up 2) 100 9 15 2 _ 2 (carried_right.0 Engine.walk)).1,
  (accepted_within (up 2) 100 9 15 32 _ 2 further_right.0.0).1,
)

-- 99 is shut to the user who is bound by a chain of 2 records, with the same limits.
shut : (Open 2 (far 2) 100 99 → ⊥) × (Open chain_limit (far 2) 100 99 → ⊥)
unfolding number count_at may_have
shut = (closed 2 refl, closed chain_limit refl)
  where
    closed : (n : ℕ) → not (open_test n (far 2) 100 99) ≡ true → Open n (far 2) 100 99 → ⊥
    closed n e = (not_test (open_test n (far 2) 100 99) (open_test_lem (good_test_lem (far 2) refl) n 100 99)).0 e

module _ (p : LimitProgram) (meets : LimitMeets p) where
  gives : {b : List ℕ} {u o request limit : ℕ} {a : ℕ × ℕ} (e : Engine) → Promises e b u o request limit a → p e b u o request limit ≡ a
  gives {b} {u} {o} {request} {limit} {a} e h = one_promised e b u o request limit (p e b u o request limit) a (meets e b u o request limit) h

  pub not_refusing : RefusesEverything p → ⊥
  not_refusing (e, r) = omega (arith, rw (gives e (direct_right.0 e)) at (r (reads 1) 1 9 15 0))

  -- R at limit 2 and nothing at limit 1.
  pub not_the_same : GrantsTheSame p → ⊥
  not_the_same (e, mask, same) =
      let two = rw (gives e (carried_right.0 e)) at (same (up 2) 100 9 15 2) in
      let one = rw (gives e (carried_right.1.0 e)) at (same (up 2) 100 9 15 1) in
      omega (arith, two refl, one refl)

  module _ (other : ℕ → ℕ) where
    -- The chain of 2 records carries nothing at limit 1, and would with the other limit.
    holds_to : Limited Ordinary (other 1) (up 2) 100 9 15 2 → HoldsTo other p → ⊥
    unfolding Limited
    holds_to more (e, wrong) =
        let none = rw (gives e (carried_right.1.0 e)) at (wrong (up 2) 100 9 15 1) in
        omega (arith, mask_one (none refl) more)

    -- 99 is open at limit 1, and would be shut.
    opens_to : (Open (other 1) (far 2) 100 99 → ⊥) → OpensTo other p → ⊥
    opens_to closed (e, wrong) =
        let opened = rw (gives e (marked_right.1.1.1.1.1.0 e)) at (wrong (far 2) 100 99 15 1 1) in
        closed (opened refl)

  pub lowers_the_limit : StaysAt32 p → ⊥
  lowers_the_limit = holds_to (λ limit. chain_limit) by_two.1

  pub not_one_more : OneMore p → ⊥
  not_one_more = holds_to suc by_two.0

  pub lowers_markers : MarkersStayAt32 p → ⊥
  lowers_markers = opens_to (λ limit. chain_limit) shut.1

  pub not_one_marker_more : OneMoreMarker p → ⊥
  not_one_marker_more = opens_to suc shut.0

  -- 33 is above the limit of each engine, and 65 M records are too many for the plain one.
  pub not_any : TakesAny p → ⊥
  unfolding number
  not_any (TakesAny.limits e takes) =
      takes nothing 1 9 15 33 (omega arith) (ap (λ (a : ℕ × ℕ). a.0) (gives e (further_right.1.1.1.1.1.1.1.1.1.0 e)))
  not_any (TakesAny.records takes) = takes crowd 164 9 2 0 (omega arith) (ap (λ (a : ℕ × ℕ). a.0) (gives Engine.plain crowded_right.0.1))
