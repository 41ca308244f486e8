-- M-111: the table of the rights for a chain limit, by tests that compute.
use Prim.Native.Nat.{ℕ, ◌≤◌}
use mathlib.Core.Path.{◌≡◌, refl}
use mathlib.Core.Bool.{Bool, true, not, ◌&&◌}
use mathlib.Core.List.{List}
use mathlib.Core.Logic.{◌↔◌, inl, inr}
use native.Mathlib.Omega.{arith}
use borrow.Author.Tests.{leb-true, le-leb}
use lib.Dec.{leb}
use Rattle.index.specs.declared.Kind.TheVariants.{Membership}
use Rattle.index.specs.Letters.{all_rights, may_have}
use Rattle.index.specs.Numbers.{First, Each}
use Rattle.index.specs.Block.{number, count_at, size}
use Rattle.index.specs.Calls.{block_needs}
use Rattle.index.proofs.laws.Firsts.{first_all}
use Rattle.index.proofs.laws.Tests.{both}
use Rattle.rights.specs.Held.{chain_limit}
use Rattle.rights.specs.HeldTo.{limit_needs, HeldWithin, HeldTo}
use Rattle.rights.specs.Profiles.{HoldsIn}
use Rattle.rights.specs.Questions.{Limited}
use Rattle.rights.proofs.laws.questions.Letting.{Named}
use Rattle.rights.proofs.laws.tests.ChainTest.{not_test}
use Rattle.rights.proofs.laws.tests.HoldsTest.{holds_test, holds_test_lem}
use Rattle.plain.specs.Plain.{greatest_limit, most_records, Small, Within}
use Rattle.tight.specs.Limits.{Engine, Promises, Case, Shows, direct, carried, marked, further, crowded}
use Rattle.tight.proofs.CaseTest.{all_tests_lem}
use Rattle.tight.proofs.MaskTest.{both_tests, given_test, given_test_lem}
use Rattle.tight.proofs.SlipTable.{named_test, named_test_lem}

-- For what blocks and limits an engine is asked.
abbrev pub Inside : Engine → List ℕ → ℕ → Type 0
Inside Engine.plain b limit = Small b limit
Inside Engine.walk b limit = limit ≤ chain_limit

pub promises : (e : Engine) (b : List ℕ) (u o request limit : ℕ) (a : ℕ × ℕ)
    → First (λ n. (n, 0)) (limit_needs b u o request (Inside e b limit)) (HeldWithin limit b u o request) a → Promises e b u o request limit a
unfolding Within HeldTo
promises Engine.plain b u o request limit a p = p
promises Engine.walk b u o request limit a p = p

-- ---- the tests

abbrev inside_test : Engine → List ℕ → ℕ → Bool
inside_test Engine.plain b limit = leb limit greatest_limit && leb (size b Membership) most_records
inside_test Engine.walk b limit = leb limit chain_limit

pub at_most : (n m : ℕ) → (leb n m ≡ true) ↔ (n ≤ m)
at_most n m = (leb-true n m, le-leb n m)

inside_test_lem : (e : Engine) (b : List ℕ) (limit : ℕ) → (inside_test e b limit ≡ true) ↔ Inside e b limit
inside_test_lem Engine.plain b limit = both_tests _ _ (at_most limit greatest_limit) (at_most (size b Membership) most_records)
inside_test_lem Engine.walk b limit = at_most limit chain_limit

-- What is tested before the limit.
module _ (b : List ℕ) (u o request : ℕ) where
  abbrev ask_test : Bool
  ask_test = named_test b u o && (leb 1 request && leb request all_rights)

  ask_test_lem : ask_test ≡ true → Named b u o × ((1 ≤ request) × (request ≤ all_rights))
  ask_test_lem e =
      let p = both (named_test b u o) _ e in
      (named_test_lem b u o p.0, (both_tests _ _ (at_most 1 request) (at_most request all_rights)).0 p.1)

module _ (b : List ℕ) (u o request limit : ℕ) where
  abbrev held_test : ℕ → Bool
  held_test mask = ask_test b u o request && given_test request mask (holds_test limit b u o)

  held_test_lem : (e : Engine) (mask : ℕ) → held_test mask ≡ true → Inside e b limit → Promises e b u o request limit (0, mask)
  unfolding limit_needs block_needs Limited HoldsIn
  held_test_lem e mask t inside =
      let p = both (ask_test b u o request) _ t in
      let q = ask_test_lem b u o request p.0 in
      let n = q.0 in
      promises e b u o request limit (0, mask)
      (first_all (λ n. (n, 0)) (HeldWithin limit b u o request) (0, mask) (limit_needs b u o request (Inside e b limit))
      (n.sized, (n.good, ((n.user, n.object), (q.1, (inside, tt))))) (
        refl,
        given_test_lem request mask (holds_test limit b u o) _ (λ k l. holds_test_lem n.good limit u o k) p.1,
      ))

  above : (e : Engine) → ask_test b u o request ≡ true → (Inside e b limit → ⊥) → Promises e b u o request limit (14, 0)
  unfolding limit_needs block_needs
  above e t none =
      let q = ask_test_lem b u o request t in
      let n = q.0 in
      promises e b u o request limit (14, 0) (inr (n.sized, inr (n.good, inr ((n.user, n.object), inr (q.1, inl (none, refl))))))

abbrev case_test : Case → Bool
case_test (Case.held b u o request limit mask) = inside_test Engine.plain b limit && held_test b u o request limit mask
case_test (Case.walked b u o request limit mask) =
    not (inside_test Engine.plain b limit) && (inside_test Engine.walk b limit && held_test b u o request limit mask)
case_test (Case.above b u o request limit) = not (inside_test Engine.walk b limit) && ask_test b u o request

-- Where the plain engine is asked, so is the main walk.
inside_both : (b : List ℕ) (limit : ℕ) → Inside Engine.plain b limit → (e : Engine) → Inside e b limit
inside_both b limit h Engine.plain = h
inside_both b limit h Engine.walk = omega (arith, h.0)

outside : (e : Engine) (b : List ℕ) (limit : ℕ) → not (inside_test e b limit) ≡ true → Inside e b limit → ⊥
outside e b limit = (not_test (inside_test e b limit) (inside_test_lem e b limit)).0

means : (c : Case) → case_test c ≡ true → Shows c
means (Case.held b u o request limit mask) t =
    let p = both (inside_test Engine.plain b limit) _ t in
    λ e. held_test_lem b u o request limit e mask p.1 (inside_both b limit ((inside_test_lem Engine.plain b limit).0 p.0) e)
means (Case.walked b u o request limit mask) t =
    let p = both (not (inside_test Engine.plain b limit)) _ t in
    let q = both (inside_test Engine.walk b limit) _ p.1 in (
      held_test_lem b u o request limit Engine.walk mask q.1 ((inside_test_lem Engine.walk b limit).0 q.0),
      above b u o request limit Engine.plain (both (ask_test b u o request) _ q.1).0 (outside Engine.plain b limit p.0),
    )
means (Case.above b u o request limit) t =
    let p = both (not (inside_test Engine.walk b limit)) _ t in
    λ e. above b u o request limit e p.1 (beyond e (outside Engine.walk b limit p.0))
  where
    beyond : (e : Engine) → (Inside Engine.walk b limit → ⊥) → Inside e b limit → ⊥
    beyond Engine.plain none h = none (inside_both b limit h Engine.walk)
    beyond Engine.walk none h = none h

-- ---- every case holds

pub direct_right : Each Shows direct
unfolding number count_at may_have
direct_right = all_tests_lem case_test Shows means direct refl

pub carried_right : Each Shows carried
unfolding number count_at may_have
carried_right = all_tests_lem case_test Shows means carried refl

pub marked_right : Each Shows marked
unfolding number count_at may_have
marked_right = all_tests_lem case_test Shows means marked refl

pub further_right : Each Shows further
unfolding number count_at may_have
further_right = all_tests_lem case_test Shows means further refl

pub crowded_right : Each Shows crowded
unfolding number count_at may_have
crowded_right = all_tests_lem case_test Shows means crowded refl
