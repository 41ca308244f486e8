-- M-113: the table of records that bear and of records that do not, by tests that compute.
use Prim.Native.Nat.{ℕ, ◌≤◌}
use mathlib.Core.Path.{◌≡◌, refl, ap, subst}
use mathlib.Core.Bool.{Bool, true, false, cond, not, ◌&&◌}
use mathlib.Core.List.{List, [], ◌∷◌}
use mathlib.Core.Logic.{◌↔◌, inl}
use native.Mathlib.Omega.{arith}
use borrow.Author.Tests.{eqb-true, eq-eqb, ltb-true, lt-ltb}
use lib.Dec.{eqb, leb, ltb}
use Rattle.index.specs.Letters.{all_rights, may_have}
use Rattle.index.specs.Numbers.{Each}
use Rattle.index.specs.Block.{name_count, IsName, number, count_at, Sized, Good}
use Rattle.index.specs.Message.{IsKind, kind_of}
use Rattle.index.specs.Calls.{block_needs}
use Rattle.index.proofs.laws.Firsts.{first_all}
use Rattle.index.proofs.laws.Tests.{both}
use Rattle.rights.specs.declared.Profile.TheVariants.{Ordinary}
use Rattle.rights.specs.Held.{chain_limit}
use Rattle.rights.specs.Profiles.{HoldsIn, ordinary, strict, IsProfile, profile_of}
use Rattle.rights.specs.Questions.{question_needs, Limited, Reports, unreported, Full}
use Rattle.rights.specs.Near.{Near, IsNear, AsksNear}
use Rattle.rights.proofs.laws.questions.Letting.{Named}
use Rattle.rights.proofs.laws.questions.Nearing as nearing
use Rattle.rights.proofs.laws.tests.ChainTest.{not_test}
use Rattle.rights.proofs.laws.tests.ExaminedTest.{examined_test_lem}
use Rattle.rights.proofs.laws.tests.HoldsTest.{holds_test, holds_test_lem}
use Rattle.bearing.specs.Bearing.{Bears, Bearing, AsksBearing}
use Rattle.bearing.proofs.laws.Asking.{Asked, says_yes, says_no}
use Rattle.tight.specs.Blocks.{Row}
use Rattle.tight.specs.Bearings.{Records, made, among, Case, Said, SaidTwice, Gives, InEither, InFull, Reads, Shows, memberships, grants, filters, counted, elsewhere, last, grant, shorter, ungranted, onward, ended, Reach, Reaches, reaches}
use Rattle.tight.proofs.BlockTest.{block_test, block_test_lem}
use Rattle.tight.proofs.BearsTest.{near_test, near_test_lem, bears_test, bears_test_lem}
use Rattle.tight.proofs.CaseTest.{numbers_test, tested, all_tests, all_tests_lem}
use Rattle.tight.proofs.LimitTable.{at_most}
use Rattle.tight.proofs.MaskTest.{both_tests, given_test, given_test_lem}
use Rattle.tight.proofs.RightsTest.{rights_test, profiles_test, rights_test_lem}
use Rattle.tight.proofs.SlipTable.{named_test, named_test_lem}
use Rattle.tight.proofs.Starred.{◌and◌}

-- A block that is asked of: it has an allowed length and is good.
abbrev pub Fit : List ℕ → Type 0
Fit b = Sized b × Good b

abbrev names_test : ℕ → ℕ → Bool
names_test x y = ltb x name_count && ltb y name_count

names_test_lem : (x y : ℕ) → (names_test x y ≡ true) ↔ (IsName x × IsName y)
names_test_lem x y = both_tests _ _ (ltb-true x name_count, lt-ltb x name_count) (ltb-true y name_count, lt-ltb y name_count)

-- ---- whether a record bears

module _ (b : List ℕ) (u o kind x y : ℕ) where
  -- What the call needs of the kind and the names.
  abbrev record_test : Bool
  record_test = names_test u o && ((leb 1 kind && leb kind 3) && names_test x y)

  record_test_lem : Fit b → record_test ≡ true → Asked b u o kind x y
  unfolding IsKind
  record_test_lem fit e =
      let p = both (names_test u o) _ e in
      let q = both (leb 1 kind && leb kind 3) _ p.1 in
      let n = (names_test_lem u o).0 p.0 in
      let m = (names_test_lem x y).0 q.1 in
      record {
        sized = fit.0;
        good = fit.1;
        is_kind = (both_tests _ _ (at_most 1 kind) (at_most kind 3)).0 q.0;
        user = n.0;
        object = n.1;
        key = m.0;
        id = m.1;
      }

  abbrev answer_test : ℕ → Bool
  answer_test answer = record_test && eqb (cond (bears_test b u o (kind_of kind) x y) 1 0) answer

  judged : Asked b u o kind x y → (t : Bool) → (t ≡ true) ↔ Bears b u o (kind_of kind) x y → Bearing b u o kind x y (0, cond t 1 0)
  unfolding AsksBearing
  judged all true right = says_yes b u o kind x y all (right.0 refl)
  judged all false right = says_no b u o kind x y all ((not_test false right).0 refl)

  answer_test_lem : Fit b → (answer : ℕ) → answer_test answer ≡ true → Bearing b u o kind x y (0, answer)
  answer_test_lem fit answer e =
      let p = both record_test _ e in
      subst (λ (n : ℕ). Bearing b u o kind x y (0, n)) (eqb-true _ _ p.1)
      (judged (record_test_lem fit p.0) (bears_test b u o (kind_of kind) x y) (bears_test_lem fit.1 u o (kind_of kind) x y))

-- ---- what is held

module _ (b : List ℕ) (u o : ℕ) where
  -- All four rights, in the two profiles, and in each the same.
  by_profile : (mask in_strict : ℕ) → rights_test b u mask in_strict o ≡ true
      → Gives b u o all_rights ordinary mask × Gives b u o all_rights strict in_strict
  by_profile mask in_strict e = let r = profiles_test b u mask in_strict o _ _ (e, refl, refl) in ((_, _, r.0), (_, _, r.1))

  either_way : (mask : ℕ) → rights_test b u mask mask o ≡ true → InEither b u o mask
  either_way mask e p is = (_, _, rights_test_lem b u mask o _ _ (e, refl, refl) p is)

  -- With the numbers of records examined.
  abbrev full_test : ℕ → ℕ × ℕ → Bool
  full_test mask numbers = rights_test b u mask mask o && numbers_test b u o numbers.0 numbers.1

  full_test_lem : (mask : ℕ) (numbers : ℕ × ℕ) → full_test mask numbers ≡ true → InFull b u o mask numbers
  full_test_lem mask numbers e = rights_test_lem b u mask o numbers.0 numbers.1 (tested b u mask mask o numbers.0 numbers.1 e)

  -- R alone.
  abbrev read_test : ℕ → Bool
  read_test mask = names_test u o && given_test 2 mask (holds_test chain_limit b u o)

  read_test_lem : Fit b → (mask : ℕ) → read_test mask ≡ true → Reads b u o mask
  unfolding Full question_needs block_needs Limited HoldsIn IsProfile profile_of
  read_test_lem (sized, good) mask e =
      let p = both (names_test u o) _ e in (
        _,
        _,
        first_all unreported (Reports Ordinary b u o 2) (0, mask, _, _) (question_needs b u o 2 ordinary)
            (sized, (good, ((names_test_lem u o).0 p.0, ((omega arith, omega arith), (inl refl, tt))))) (
              refl,
              given_test_lem 2 mask (holds_test chain_limit b u o) _ (λ k l. holds_test_lem good chain_limit u o k) p.1,
              examined_test_lem good u,
              examined_test_lem good o,
            ),
      )

-- ---- the test of each case

abbrev said_test : Records → ℕ → Row → ℕ → ℕ → ℕ → Bool
said_test b kind r u o answer = answer_test (made b) u o kind r.key r.id answer

abbrev twice_test : Records → ℕ → Row → ℕ → ℕ → ℕ → Bool
twice_test b kind r u o answer = said_test b kind r u o answer && answer_test (among kind r b) u o kind r.key r.id answer

twice_test_lem : (b : Records) (kind : ℕ) (r : Row) (u o answer : ℕ) → Fit (made b) → Fit (among kind r b) → twice_test b kind r u o answer ≡ true
    → SaidTwice b kind r u o answer
twice_test_lem b kind r u o answer fit fit' e =
    let p = both (said_test b kind r u o answer) _ e in (
      answer_test_lem (made b) u o kind r.key r.id fit answer p.0,
      answer_test_lem (among kind r b) u o kind r.key r.id fit' answer p.1,
    )

-- At the very limit: whether it bears, nothing without it, and what may be read with it.
abbrev limit_test : Records → ℕ → Row → ℕ → ℕ → ℕ → ℕ → Bool
limit_test b kind r u o answer after = said_test b kind r u o answer && (read_test (made b) u o 0 && read_test (among kind r b) u o after)

limit_test_lem : (b : Records) (kind : ℕ) (r : Row) (u o answer after : ℕ) → Fit (made b) → Fit (among kind r b) → limit_test b kind r u o answer after ≡ true
    → Said b kind r u o answer × Reads (made b) u o 0 × Reads (among kind r b) u o after
limit_test_lem b kind r u o answer after fit fit' e =
    let p = both (said_test b kind r u o answer) _ e in
    let q = both (read_test (made b) u o 0) _ p.1 in (
      answer_test_lem (made b) u o kind r.key r.id fit answer p.0,
      read_test_lem (made b) u o fit 0 q.0,
      read_test_lem (among kind r b) u o fit' after q.1,
    )

-- Two numbers differ.
differ_test : (n m : ℕ) → not (eqb n m) ≡ true → n ≡ m → ⊥
differ_test n m e = (not_test (eqb n m) (eqb-true n m, eq-eqb n m)).0 e

abbrev same_test : ℕ × ℕ → ℕ × ℕ → Bool
same_test a c = eqb a.0 c.0 && eqb a.1 c.1

pairs_differ : (a c : ℕ × ℕ) → not (same_test a c) ≡ true → a ≡ c → ⊥
pairs_differ a c e same =
    (not_test (same_test a c) (both_tests _ _ (eqb-true a.0 c.0, eq-eqb _ _) (eqb-true a.1 c.1, eq-eqb _ _))).0 e
    (ap (λ (a : ℕ × ℕ). a.0) same, ap (λ (a : ℕ × ℕ). a.1) same)

abbrev case_test : Case → Bool
case_test (Case.touches b kind r u o before after) =
    twice_test b kind r u o 1
    && (rights_test (made b) u before before o && (rights_test (among kind r b) u after after o && not (eqb before after)))
case_test (Case.denies b kind r u o mask in_strict) =
    twice_test b kind r u o 1
    && (rights_test (made b) u mask mask o && (rights_test (among kind r b) u mask in_strict o && not (eqb mask in_strict)))
case_test (Case.counts b kind r u o mask before after) =
    twice_test b kind r u o 1
    && (full_test (made b) u o mask before && (full_test (among kind r b) u o mask after && not (same_test before after)))
case_test (Case.misses b kind r u o mask i j) =
    twice_test b kind r u o 0 && (full_test (made b) u o mask (i, j) && full_test (among kind r b) u o mask (i, j))
case_test (Case.within b kind r u o) = limit_test b kind r u o 1 2
case_test (Case.beyond b kind r u o) = limit_test b kind r u o 0 0

-- The two blocks of a case: without the record, and with it.
abbrev without : Case → List ℕ
without (Case.touches b kind r u o before after) = made b
without (Case.denies b kind r u o mask in_strict) = made b
without (Case.counts b kind r u o mask before after) = made b
without (Case.misses b kind r u o mask i j) = made b
without (Case.within b kind r u o) = made b
without (Case.beyond b kind r u o) = made b

abbrev along : Case → List ℕ
along (Case.touches b kind r u o before after) = among kind r b
along (Case.denies b kind r u o mask in_strict) = among kind r b
along (Case.counts b kind r u o mask before after) = among kind r b
along (Case.misses b kind r u o mask i j) = among kind r b
along (Case.within b kind r u o) = among kind r b
along (Case.beyond b kind r u o) = among kind r b

means : (c : Case) → Fit (without c) → Fit (along c) → case_test c ≡ true → Shows c
means (Case.touches b kind r u o before after) fit fit' e =
    let p = both (twice_test b kind r u o 1) _ e in
    let q = both (rights_test (made b) u before before o) _ p.1 in
    let s = both (rights_test (among kind r b) u after after o) _ q.1 in (
      twice_test_lem b kind r u o 1 fit fit' p.0,
      either_way (made b) u o before q.0,
      either_way (among kind r b) u o after s.0,
      differ_test before after s.1,
    )
means (Case.denies b kind r u o mask in_strict) fit fit' e =
    let p = both (twice_test b kind r u o 1) _ e in
    let q = both (rights_test (made b) u mask mask o) _ p.1 in
    let s = both (rights_test (among kind r b) u mask in_strict o) _ q.1 in
    let r' = by_profile (among kind r b) u o mask in_strict s.0 in
    (twice_test_lem b kind r u o 1 fit fit' p.0, either_way (made b) u o mask q.0, r'.0, r'.1, differ_test mask in_strict s.1)
means (Case.counts b kind r u o mask before after) fit fit' e =
    let p = both (twice_test b kind r u o 1) _ e in
    let q = both (full_test (made b) u o mask before) _ p.1 in
    let s = both (full_test (among kind r b) u o mask after) _ q.1 in (
      twice_test_lem b kind r u o 1 fit fit' p.0,
      full_test_lem (made b) u o mask before q.0,
      full_test_lem (among kind r b) u o mask after s.0,
      pairs_differ before after s.1,
    )
means (Case.misses b kind r u o mask i j) fit fit' e =
    let p = both (twice_test b kind r u o 0) _ e in
    let q = both (full_test (made b) u o mask (i, j)) _ p.1 in
    (twice_test_lem b kind r u o 0 fit fit' p.0, full_test_lem (made b) u o mask (i, j) q.0, full_test_lem (among kind r b) u o mask (i, j) q.1)
means (Case.within b kind r u o) fit fit' e = limit_test_lem b kind r u o 1 2 fit fit' e
means (Case.beyond b kind r u o) fit fit' e = limit_test_lem b kind r u o 0 0 fit fit' e

-- Where the two blocks are known to be such.
all_fit : (cs : List Case) → Each (λ c. Fit (without c) × Fit (along c)) cs → all_tests case_test cs ≡ true → Each Shows cs
all_fit [] fits e = tt
all_fit (c ∷ cs) (fit, fits) e = let p = both (case_test c) (all_tests case_test cs) e in (means c fit.0 fit.1 p.0, all_fit cs fits p.1)

-- With the test of its blocks.
abbrev whole_test : Case → Bool
whole_test c = block_test (without c) && (block_test (along c) && case_test c)

whole_means : (c : Case) → whole_test c ≡ true → Shows c
whole_means c e =
    let p = both (block_test (without c)) _ e in
    let q = both (block_test (along c)) _ p.1 in
    means c (block_test_lem (without c) p.0) (block_test_lem (along c) q.0) q.1

-- ---- every case holds

pub memberships_right : Each Shows memberships
unfolding number count_at may_have kind_of
memberships_right = all_tests_lem whole_test Shows whole_means memberships refl

pub grants_right : Each Shows grants
unfolding number count_at may_have kind_of
grants_right = all_tests_lem whole_test Shows whole_means grants refl

pub filters_right : Each Shows filters
unfolding number count_at may_have kind_of
filters_right = all_tests_lem whole_test Shows whole_means filters refl

pub counted_right : Each Shows counted
unfolding number count_at may_have kind_of
counted_right = all_tests_lem whole_test Shows whole_means counted refl

pub elsewhere_right : Each Shows elsewhere
unfolding number count_at may_have kind_of
elsewhere_right = all_tests_lem whole_test Shows whole_means elsewhere refl

-- ---- the long line: each of its blocks is tested once

-- Without the last record, and without the grant.
pub shorter_fit : Fit (made shorter)
unfolding number count_at may_have
shorter_fit = block_test_lem (made shorter) refl

pub ungranted_fit : Fit (made ungranted)
unfolding number count_at may_have
ungranted_fit = block_test_lem (made ungranted) refl

-- With both.
line_fit : Fit (among 1 last shorter)
unfolding number count_at may_have kind_of
line_fit = block_test_lem (among 1 last shorter) refl

pub onward_right : Each Shows onward
unfolding number count_at may_have kind_of
onward_right =
    let fit : Fit (made shorter) × Fit (among 1 last shorter) = (shorter_fit, line_fit) in
    all_fit onward (fit and fit and fit and fit and tt) refl

pub ended_right : Each Shows ended
unfolding number count_at may_have kind_of
ended_right =
    let fit : Fit (made ungranted) × Fit (among 2 grant ungranted) = (ungranted_fit, line_fit) in
    all_fit ended (fit and fit and fit and tt) refl

-- ---- what is reached

module _ (b : List ℕ) (x z limit : ℕ) where
  abbrev reach_test : ℕ → Bool
  reach_test answer = named_test b x z && (leb limit chain_limit && eqb (cond (near_test limit b x z) 1 0) answer)

  reached : Named b x z → limit ≤ chain_limit → (t : Bool) → (t ≡ true) ↔ Near limit b x z → IsNear b x z limit (0, cond t 1 0)
  unfolding AsksNear
  reached named few true right = nearing.says b x z limit named few true (right.0 refl)
  reached named few false right = nearing.says b x z limit named few false ((not_test false right).0 refl)

  reach_test_lem : (answer : ℕ) → reach_test answer ≡ true → IsNear b x z limit (0, answer)
  reach_test_lem answer e =
      let p = both (named_test b x z) _ e in
      let q = both (leb limit chain_limit) _ p.1 in
      let n = named_test_lem b x z p.0 in
      subst (λ (a : ℕ). IsNear b x z limit (0, a)) (eqb-true _ _ q.1)
      (reached n ((at_most limit chain_limit).0 q.0) (near_test limit b x z) (near_test_lem n.good limit x z))

abbrev asked_test : Reach → Bool
asked_test (Reach.asked b x z limit answer) = reach_test b x z limit answer

asked_means : (r : Reach) → asked_test r ≡ true → Reaches r
asked_means (Reach.asked b x z limit answer) e = reach_test_lem b x z limit answer e

pub reaches_right : Each Reaches reaches
unfolding number count_at may_have
reaches_right = all_tests_lem asked_test Reaches asked_means reaches refl
