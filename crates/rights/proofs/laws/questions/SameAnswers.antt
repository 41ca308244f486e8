-- M-106: "Answers through the directory are proved equal to answers without it": of the two questions.
use Prim.Native.Nat.{ℕ}
use mathlib.Core.Path.{◌≡◌, ap}
use mathlib.Core.List.{List}
use mathlib.Core.Logic.{◌↔◌}
use native.Mathlib.Omega.{arith}
use Rattle.std.specs.Prelude.{Bool, Result, Ok, Err}
use Rattle.index.specs.declared.refusals.Refusal.{Refusal}
use Rattle.index.specs.declared.refusals.Refusal.TheVariants.{Directory}
use Rattle.index.specs.Numbers.{number}
use Rattle.index.proofs.laws.Refusing.{once}
use Rattle.directory.specs.Directory.{Own}
use Rattle.directory.proofs.OneBy.{one_by}
use Rattle.directory.proofs.Passing.{Tests, tests}
use Rattle.directory.proofs.AsWithout.{as_without, own_as_without}
use Rattle.rights.specs.declared.grants.Reach.{Reach}
use Rattle.rights.specs.Questions.{question_needs, unreported, Full, Short, FullBy, ShortBy, Asks, AsksBy, AsksAll, AsksAllBy}
use Rattle.rights.proofs.laws.questions.OneAnswer.{one_full, one_short, rights_once, answer_once, one_asks, one_asks_all}

module _ (b : List ℕ) (u o request profile : ℕ) where
  -- A question tests the block first.
  pub full_tests : Tests b unreported (Full b u o request profile)
  unfolding Full question_needs
  full_tests = tests b unreported _ _

  pub short_tests : Tests {O = ℕ × ℕ} b (λ n. (n, 0)) (Short b u o request profile)
  unfolding Short question_needs
  short_tests = tests b (λ n. (n, 0)) _ _

  module _ (d : List ℕ) where
    -- ---- no second answer

    pub one_full_by : (a c : ℕ × ℕ × ℕ × ℕ) → FullBy b d u o request profile a → FullBy b d u o request profile c → a ≡ c
    unfolding FullBy
    one_full_by = one_by b d unreported (Full b u o request profile) (one_full b u o request profile)

    pub one_short_by : (a c : ℕ × ℕ) → ShortBy b d u o request profile a → ShortBy b d u o request profile c → a ≡ c
    unfolding ShortBy
    one_short_by = one_by b d (λ n. (n, 0)) (Short b u o request profile) (one_short b u o request profile)

    pub one_asks_by : (r s : Result Reach Refusal) → AsksBy b d u o request profile r → AsksBy b d u o request profile s → r ≡ s
    unfolding AsksBy
    one_asks_by = rights_once (FullBy b d u o request profile) one_full_by

    pub one_asks_all_by : (r s : Result Bool Refusal) → AsksAllBy b d u o request profile r → AsksAllBy b d u o request profile s → r ≡ s
    unfolding AsksAllBy
    one_asks_all_by = answer_once (ShortBy b d u o request profile) one_short_by

    -- ---- by the block's own directory

    pub own_full : (a : ℕ × ℕ × ℕ × ℕ) → Own b d → FullBy b d u o request profile a ↔ Full b u o request profile a
    unfolding FullBy
    own_full = own_as_without b d unreported (Full b u o request profile) full_tests

    pub own_short : (a : ℕ × ℕ) → Own b d → ShortBy b d u o request profile a ↔ Short b u o request profile a
    unfolding ShortBy
    own_short = own_as_without b d (λ n. (n, 0)) (Short b u o request profile) short_tests

    -- ---- on every input on which 13 is not given

    pub rights_without : (r : Result Reach Refusal) → (r ≡ Err Directory → ⊥) → AsksBy b d u o request profile r → Asks b u o request profile r
    unfolding AsksBy Asks FullBy
    rights_without (Ok reach) not13 p =
        as_without b d unreported (Full b u o request profile) full_tests (0, reach.rights, reach.user, reach.object)
        (λ e. omega (arith, ap (λ (a : ℕ × ℕ × ℕ × ℕ). a.0) e)) p
    rights_without (Err e) not13 p =
        as_without b d unreported (Full b u o request profile) full_tests (unreported (number e))
        (λ q. not13 (ap Err (once e Directory (ap (λ (a : ℕ × ℕ × ℕ × ℕ). a.0) q)))) p

    -- `rights_by` answers what `rights_of` answers, the numbers of records examined among it.
    pub same_rights : (r r' : Result Reach Refusal) → (r ≡ Err Directory → ⊥) → AsksBy b d u o request profile r → Asks b u o request profile r'
        → r ≡ r'
    same_rights r r' not13 p q = one_asks b u o request profile r r' (rights_without r not13 p) q

    may_without : (r : Result Bool Refusal) → (r ≡ Err Directory → ⊥) → AsksAllBy b d u o request profile r → AsksAll b u o request profile r
    unfolding AsksAllBy AsksAll ShortBy
    may_without (Ok t) not13 p =
        as_without b d (λ n. (n, 0)) (Short b u o request profile) short_tests _ (λ e. omega (arith, ap (λ (a : ℕ × ℕ). a.0) e)) p
    may_without (Err e) not13 p =
        as_without b d (λ n. (n, 0)) (Short b u o request profile) short_tests (number e, 0)
        (λ q. not13 (ap Err (once e Directory (ap (λ (a : ℕ × ℕ). a.0) q)))) p

    -- `may_by` answers what `may` answers.
    pub same_may : (r r' : Result Bool Refusal) → (r ≡ Err Directory → ⊥) → AsksAllBy b d u o request profile r → AsksAll b u o request profile r'
        → r ≡ r'
    same_may r r' not13 p q = one_asks_all b u o request profile r r' (may_without r not13 p) q
