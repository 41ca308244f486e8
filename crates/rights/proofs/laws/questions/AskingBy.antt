-- The questions after the tests of the block, and of the directory if one is lent.
use Rattle.std.proofs.Common.{ℕ, List, ◌++◌, Bool, Result, refl}
use Rattle.index.specs.declared.refusals.Refusal.{Refusal}
use Rattle.index.specs.Numbers.{Answers, number, yes_no}
use Rattle.index.specs.Block.{Sized, Good}
use Rattle.index.specs.Calls.{block_needs}
use Rattle.index.proofs.laws.Refusing.{some, means_map}
use Rattle.directory.specs.By.{directory_needs}
use Rattle.directory.proofs.Passing.{fit, by_refused, by_fit}
use Rattle.rights.specs.declared.grants.Reach.{Reach}
use Rattle.rights.specs.Profiles.{IsProfile}
use Rattle.rights.specs.Questions.{ask_needs, profile_needs, unreported, question_needs, Full, Short, FullBy, ShortBy, reach_value, Asks, AsksBy, AsksAll, AsksAllBy}
use Rattle.rights.proofs.laws.questions.Requiring.{refused, refused_block}

module _ (b : List ℕ) (u o request profile : ℕ) where
  -- ---- refused for the block

  module _ (e : Refusal) (told : Answers (block_needs b) (number e)) where
    pub full_refused : Full b u o request profile (unreported (number e))
    unfolding Full question_needs
    full_refused = refused_block b u o request 15 (IsProfile profile) unreported _ (some e) told

    pub short_refused : Short b u o request profile (number e, 0)
    unfolding Short question_needs
    short_refused = refused_block b u o request 15 (IsProfile profile) (λ n. (n, 0)) _ (some e) told

  -- ---- refused for the names, the request or the profile

  module _ (sized : Sized b) (good : Good b) (e : Refusal) (told : Answers (ask_needs u o request ++ profile_needs profile) (number e)) where
    pub full_refused_later : Full b u o request profile (unreported (number e))
    unfolding Full question_needs
    full_refused_later = refused b u o request 15 (IsProfile profile) unreported _ sized good (some e) told

    pub short_refused_later : Short b u o request profile (number e, 0)
    unfolding Short question_needs
    short_refused_later = refused b u o request 15 (IsProfile profile) (λ n. (n, 0)) _ sized good (some e) told

  -- ---- by a directory: refused for it, or as without it

  module _ (d : List ℕ) where
    pub full_by_refused : (e : Refusal) → Answers (directory_needs b d) (number e) → FullBy b d u o request profile (unreported (number e))
    unfolding FullBy
    full_by_refused e told = by_refused b d unreported (Full b u o request profile) (some e) told

    pub short_by_refused : (e : Refusal) → Answers (directory_needs b d) (number e) → ShortBy b d u o request profile (number e, 0)
    unfolding ShortBy
    short_by_refused e told = by_refused b d (λ n. (n, 0)) (Short b u o request profile) (some e) told

    module _ (told : Answers (directory_needs b d) 0) where
      pub asks_by : (r : Result Reach Refusal) → Asks b u o request profile r → AsksBy b d u o request profile r
      unfolding Asks AsksBy FullBy
      asks_by = means_map reach_value (0, 0, 0) _ _ (λ a. by_fit b d unreported (Full b u o request profile) (a.0, a.1.0, a.1.1, a.1.2) (fit b d refl told))

      pub asks_all_by : (r : Result Bool Refusal) → AsksAll b u o request profile r → AsksAllBy b d u o request profile r
      unfolding AsksAll AsksAllBy ShortBy
      asks_all_by = means_map yes_no 0 _ _ (λ a. by_fit b d (λ n. (n, 0)) (Short b u o request profile) a (fit b d refl told))
