-- M-103: the table of slips, by tests that compute.
use Prim.Native.Nat.{ℕ, ◌+◌, ◌^◌, ◌<◌, ◌≤◌}
use mathlib.Core.Path.{◌≡◌, refl, sym, ap}
use mathlib.Core.Bool.{Bool, true, false, cond, ◌&&◌}
use mathlib.Core.List.{List}
use mathlib.Core.Logic.{◌↔◌, ⊎_elim}
use native.Mathlib.Omega.{arith}
use borrow.Author.Tests.{eqb-true, ltb-true, leb-true}
use lib.Dec.{eqb, ltb, leb}
use lib.ListN.{length}
use Rattle.index.specs.Letters.{right_count, may_have}
use Rattle.index.specs.Numbers.{Each}
use Rattle.index.specs.Block.{name_count, IsName, number, count_at}
use Rattle.index.specs.Calls.{block_needs}
use Rattle.index.specs.work.Checks.{Says}
use Rattle.index.proofs.laws.Answer.{yes_is}
use Rattle.index.proofs.laws.Firsts.{All, first_all, first_sure}
use Rattle.index.proofs.laws.Tests.{both}
use Rattle.rights.specs.Held.{chain_limit, Holds}
use Rattle.rights.specs.Through.{through_needs, Lets, LetsThrough}
use Rattle.rights.proofs.laws.questions.Letting.{Named, all_named}
use Rattle.rights.proofs.laws.tests.FilterTest.{passes_test, passes_test_lem}
use Rattle.rights.proofs.laws.tests.OpenTest.{open_test, open_test_lem}
use Rattle.slips.specs.Slip.{most_names, Slip, Shortest}
use Rattle.slips.specs.Calls.{ForRight, OneRight, IsChain, check_needs, Judged, ChecksSlip, find_needs, Outcome, Found, FindsSlip}
use Rattle.slips.proofs.laws.Naming.{slip_holds}
use Rattle.slips.proofs.laws.Rights.{right_is, for_right}
use Rattle.slips.proofs.laws.tests.SlipTest.{slip_test, slip_says}
use Rattle.tight.specs.Slips.{Case, Shows, chains, closed, ways, through}
use Rattle.tight.proofs.BlockTest.{block_test, block_test_lem}
use Rattle.tight.proofs.CaseTest.{all_tests, all_tests_lem}
use Rattle.tight.proofs.MaskTest.{both_tests, mask_test, mask_test_lem}

-- ---- what the calls need

abbrev pub named_test : List ℕ → ℕ → ℕ → Bool
named_test b u o = block_test b && (ltb u name_count && ltb o name_count)

pub named_test_lem : (b : List ℕ) (u o : ℕ) → named_test b u o ≡ true → Named b u o
named_test_lem b u o e =
    let p = both (block_test b) _ e in
    let q = both (ltb u name_count) (ltb o name_count) p.1 in
    let t = block_test_lem b p.0 in
    record { sized = t.0; good = t.1; user = ltb-true _ _ q.0; object = ltb-true _ _ q.1 }

-- The names of a chain, and how many they are.
abbrev chain_test : List ℕ → Bool
chain_test l = all_tests (λ x. ltb x name_count) l && (leb 1 (length l) && leb (length l) most_names)

chain_test_lem : (l : List ℕ) → chain_test l ≡ true → Each IsName l × IsChain l
chain_test_lem l e =
    let p = both (all_tests (λ x. ltb x name_count) l) _ e in
    let q = both (leb 1 (length l)) (leb (length l) most_names) p.1 in
    (all_tests_lem (λ x. ltb x name_count) IsName (λ x e. ltb-true x name_count e) l p.0, (leb-true _ _ q.0, leb-true _ _ q.1))

-- The mask of one right.
module _ (k : ℕ) (small : k < right_count) where
  pub one : OneRight (2 ^ k)
  one = (k, small, refl, tt)

  for : (P : ℕ → Type 0) → ForRight (2 ^ k) P ↔ P k
  for P = for_right P (right_is k small)

module _ (b : List ℕ) (u o k : ℕ) (small : k < right_count) where
  -- Of the finder, whatever lists are lent that have the places.
  pub find_all : Named b u o → (xs ys : List ℕ) → most_names ≤ length xs → most_names ≤ length ys → All (find_needs b u o (2 ^ k) xs ys)
  unfolding find_needs through_needs block_needs
  find_all n xs ys lx ly = (n.sized, (n.good, ((n.user, n.object), (one k small, ((lx, ly), tt)))))

  module _ (us os : List ℕ) where
    check_all : Named b u o → Each IsName us × IsChain us → Each IsName os × IsChain os → All (check_needs b u o (2 ^ k) us os)
    unfolding check_needs through_needs block_needs
    check_all n p q = (n.sized, (n.good, ((n.user, n.object), ((p.0, q.0), (one k small, ((p.1, q.1), tt))))))

    judged : (t : Bool) (answer : ℕ) → Says (Slip b u o k us os) t → cond t 1 0 ≡ answer → Judged b u o (2 ^ k) us os (0, answer)
    judged true answer s e = (refl, omega arith, ((λ _. (for k small (λ k. Slip b u o k us os)).1 s), (λ _. sym e)))
    judged false answer s e = (refl, omega arith, ((λ yes. absurd (omega arith)), (λ r. absurd (s ((for k small (λ k. Slip b u o k us os)).0 r)))))

-- ---- the test of each case

abbrev checked_test : List ℕ → ℕ → ℕ → ℕ → List ℕ → List ℕ → ℕ → Bool
checked_test b u o k us os answer =
    named_test b u o && (ltb k right_count && (chain_test us && (chain_test os && eqb (cond (slip_test b u o k us os) 1 0) answer)))

checked_test_lem : (b : List ℕ) (u o k : ℕ) (us os : List ℕ) (answer : ℕ) → checked_test b u o k us os answer ≡ true
    → ChecksSlip b u o (2 ^ k) us os (0, answer)
unfolding ChecksSlip
checked_test_lem b u o k us os answer e =
    let p = both (named_test b u o) _ e in
    let q = both (ltb k right_count) _ p.1 in
    let r = both (chain_test us) _ q.1 in
    let s = both (chain_test os) (eqb (cond (slip_test b u o k us os) 1 0) answer) r.1 in
    let n = named_test_lem b u o p.0 in
    let small = ltb-true _ _ q.0 in
    first_all (λ n. (n, 0)) (Judged b u o (2 ^ k) us os) (0, answer) (check_needs b u o (2 ^ k) us os)
    (check_all b u o k small us os n (chain_test_lem us r.0) (chain_test_lem os s.0))
    (judged b u o k small us os (slip_test b u o k us os) answer (slip_says n.good k small u o us os) (eqb-true _ _ s.1))

abbrev found_test : List ℕ → ℕ → ℕ → ℕ → List ℕ → List ℕ → Bool
found_test b u o k us os = named_test b u o && (ltb k right_count && slip_test b u o k us os)

found_test_lem : (b : List ℕ) (u o k : ℕ) (us os : List ℕ) → found_test b u o k us os ≡ true → Shows (Case.found b u o k us os)
unfolding FindsSlip
found_test_lem b u o k us os e xs ys lx ly a f =
    ⊎_elim (λ w. (w, shorter w)) (λ none. absurd (none.0 ((for k small (Holds chain_limit b u o)).1 (slip_holds slip))))
    (first_sure (λ n. (n, 0, 0, xs, ys)) _ a (find_needs b u o (2 ^ k) xs ys) (find_all b u o k small n xs ys lx ly) f)
  where
    p : (named_test b u o ≡ true) × (ltb k right_count && slip_test b u o k us os ≡ true)
    p = both (named_test b u o) _ e

    n : Named b u o
    n = named_test_lem b u o p.0

    small : k < right_count
    small = ltb-true _ _ (both (ltb k right_count) _ p.1).0

    slip : Slip b u o k us os
    slip = yes_is (both (ltb k right_count) _ p.1).1 (slip_says n.good k small u o us os)

    shorter : Found b u o (2 ^ k) xs ys a → a.1 + a.2 ≤ length us + length os
    shorter (vs, ws, w, is) =
        let least = ((for k small (λ k. Shortest b u o k vs ws)).0 w).least us os slip in
        omega (arith, least, ap (λ (a : Outcome). a.1) is, ap (λ (a : Outcome). a.2) is)

-- Right k is let through.
abbrev through_test : List ℕ → ℕ → ℕ → ℕ → Bool
through_test b u o k = passes_test b o k && open_test chain_limit b u o

abbrev lets_test : List ℕ → ℕ → ℕ → ℕ → Bool
lets_test b u o mask = named_test b u o && mask_test mask (through_test b u o)

lets_test_lem : (b : List ℕ) (u o mask : ℕ) → lets_test b u o mask ≡ true → LetsThrough b u o (0, mask)
unfolding LetsThrough
lets_test_lem b u o mask e =
    let p = both (named_test b u o) _ e in
    let n = named_test_lem b u o p.0 in
    let g = n.good in
    first_all (λ n. (n, 0)) (Lets b u o) (0, mask) (through_needs b u o) (all_named b u o n) (
      refl,
      mask_test_lem mask (through_test b u o) _ (λ k l. both_tests _ _ (passes_test_lem g k l o) (open_test_lem g chain_limit u o)) p.1,
    )

abbrev case_test : Case → Bool
case_test (Case.checked b u o k us os answer) = checked_test b u o k us os answer
case_test (Case.found b u o k us os) = found_test b u o k us os
case_test (Case.lets b u o mask) = lets_test b u o mask

means : (c : Case) → case_test c ≡ true → Shows c
means (Case.checked b u o k us os answer) e = checked_test_lem b u o k us os answer e
means (Case.found b u o k us os) e = found_test_lem b u o k us os e
means (Case.lets b u o mask) e = lets_test_lem b u o mask e

-- ---- every case holds

pub chains_right : Each Shows chains
unfolding number count_at may_have
chains_right = all_tests_lem case_test Shows means chains refl

pub closed_right : Each Shows closed
unfolding number count_at may_have
closed_right = all_tests_lem case_test Shows means closed refl

pub ways_right : Each Shows ways
unfolding number count_at may_have
ways_right = all_tests_lem case_test Shows means ways refl

pub through_right : Each Shows through
unfolding number count_at may_have
through_right = all_tests_lem case_test Shows means through refl
