-- M-112: two programs that are turned away, one to which the profile is all the same, and one that takes a number for a profile that is none.
use Prim.Native.Nat.{ℕ}
use mathlib.Core.Path.{◌≡◌, refl}
use mathlib.Core.List.{List, [], ◌∷◌}
use native.Mathlib.Omega.{arith}
use Rattle.index.specs.Letters.{may_have}
use Rattle.index.specs.Block.{number, count_at}
use Rattle.index.specs.Calls.{block_needs}
use Rattle.index.proofs.laws.Firsts.{first_passed}
use Rattle.index.proofs.laws.block.GoodTest.{good_test_lem}
use Rattle.directory.specs.By.{By, directory_needs}
use Rattle.directory.proofs.DirectoryOf.{has_own}
use Rattle.rights.specs.Profiles.{ordinary, strict, IsProfile, profile_of}
use Rattle.rights.specs.Questions.{question_needs, Reports, Answered, unreported, Full, Short, FullBy, ShortBy}
use Rattle.rights.proofs.laws.questions.SameAnswers.{own_full, own_short}
use Rattle.rights.proofs.laws.questions.ShortAgrees.{short_yes, short_no}
use Rattle.tight.specs.Blocks.{once}
use Rattle.tight.specs.Examples.{denying}
use Rattle.tight.specs.Programs.{Program, Meets, IgnoresProfile, TakesAnyProfile}
use Rattle.tight.proofs.Programs.{answers, says, answers_by, says_by}
use Rattle.tight.proofs.Starred.{denials_right}

-- R is denied on a group of 9's: all four rights in the ordinary profile, and all but R in the strict one.
abbrev denied : List ℕ
denied = denying (once 7 1 32 ∷ []) []

in_ordinary : Full denied 1 9 15 ordinary (0, 15, 2, 2)
in_ordinary = denials_right.0.0

in_strict : Full denied 1 9 15 strict (0, 13, 2, 2)
in_strict = denials_right.0.1

yes_ordinary : Short denied 1 9 15 ordinary (0, 1)
yes_ordinary = short_yes denied 1 9 15 ordinary 15 2 2 in_ordinary 15 (omega arith) (omega arith) (λ k h i. i)

no_strict : Short denied 1 9 15 strict (0, 0)
no_strict = short_no denied 1 9 15 strict 13 2 2 in_strict 15 (omega arith) (omega arith) 1 (omega arith) refl refl (λ i. omega arith)

-- The same by the block's own directory.
own : (d : List ℕ)
    × (FullBy denied d 1 9 15 ordinary (0, 15, 2, 2) × FullBy denied d 1 9 15 strict (0, 13, 2, 2))
    × (ShortBy denied d 1 9 15 ordinary (0, 1) × ShortBy denied d 1 9 15 strict (0, 0))
unfolding number count_at may_have
own =
    let (d, is) = has_own (good_test_lem denied refl) in (
      d,
      ((own_full denied 1 9 15 ordinary d _ is).1 in_ordinary, (own_full denied 1 9 15 strict d _ is).1 in_strict),
      ((own_short denied 1 9 15 ordinary d _ is).1 yes_ordinary, (own_short denied 1 9 15 strict d _ is).1 no_strict),
    )

module _ (p : Program) (meets : Meets p) where
  pub heeds_profile : IgnoresProfile p → ⊥
  heeds_profile (IgnoresProfile.full same) =
      omega (arith, rw (answers p meets in_ordinary, answers p meets in_strict) at (same denied 1 9 15))
  heeds_profile (IgnoresProfile.short same) =
      omega (arith, rw (says p meets yes_ordinary, says p meets no_strict) at (same denied 1 9 15))
  heeds_profile (IgnoresProfile.full_by same) =
      omega (arith, rw (answers_by p meets own.1.0, answers_by p meets own.1.1) at (same denied own.0 1 9 15))
  heeds_profile (IgnoresProfile.short_by same) =
      omega (arith, rw (says_by p meets own.2.0, says_by p meets own.2.1) at (same denied own.0 1 9 15))

-- Where a question is accepted, what it needs holds, the profile last of all.
full_profile : (b : List ℕ) (u o request profile : ℕ) (a : ℕ × ℕ × ℕ × ℕ) → a.0 ≡ 0 → Full b u o request profile a → IsProfile profile
unfolding Full question_needs block_needs
full_profile b u o request profile a zero f =
    (first_passed unreported (Reports (profile_of profile) b u o request) a (λ a. a.0) (λ n. refl) (question_needs b u o request profile)
    (omega arith) zero f).0.1.1.1.1.0

short_profile : (b : List ℕ) (u o request profile : ℕ) (a : ℕ × ℕ) → a.0 ≡ 0 → Short b u o request profile a → IsProfile profile
unfolding Short question_needs block_needs
short_profile b u o request profile a zero f =
    (first_passed (λ n. (n, 0)) (Answered (profile_of profile) b u o request) a (λ a. a.0) (λ n. refl) (question_needs b u o request profile)
    (omega arith) zero f).0.1.1.1.1.0

-- By a directory, the question without it was accepted.
without : {O : Type 0} (b d : List ℕ) (refused : ℕ → O) (Call : O → Type 0) (number : O → ℕ) → ((n : ℕ) → number (refused n) ≡ n) → (a : O)
    → number a ≡ 0 → By b d refused Call a → Call a
unfolding By directory_needs block_needs
without b d refused Call number of_refused a zero f = (first_passed refused Call a number of_refused (directory_needs b d) (omega arith) zero f).1

module _ (p : Program) (meets : Meets p) where
  pub refuses_profile : TakesAnyProfile p → ⊥
  unfolding FullBy ShortBy
  refuses_profile (TakesAnyProfile.full b u o request profile none zero) =
      none (full_profile b u o request profile _ zero (meets.rights b u o request profile))
  refuses_profile (TakesAnyProfile.short b u o request profile none zero) =
      none (short_profile b u o request profile _ zero (meets.may b u o request profile))
  refuses_profile (TakesAnyProfile.full_by b d u o request profile none zero) =
      none
      (full_profile b u o request profile _ zero
      (without b d unreported (Full b u o request profile) (λ a. a.0) (λ n. refl) _ zero (meets.rights_by b d u o request profile)))
  refuses_profile (TakesAnyProfile.short_by b d u o request profile none zero) =
      none
      (short_profile b u o request profile _ zero
      (without b d (λ n. (n, 0)) (Short b u o request profile) (λ a. a.0) (λ n. refl) _ zero (meets.may_by b d u o request profile)))
