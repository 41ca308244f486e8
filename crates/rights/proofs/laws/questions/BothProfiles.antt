-- M-112: the two profiles beside each other, and 15, which is last.
use Prim.Native.Nat.{ℕ, ◌+◌, ◌<◌}
use mathlib.Core.Path.{◌≡◌, refl, ap}
use mathlib.Core.List.{List, [], ◌∷◌, ◌++◌}
use mathlib.Core.Logic.{◌↔◌, inl, inr}
use native.Mathlib.Omega.{arith}
use Rattle.index.specs.declared.Kind.TheVariants.{Permission}
use Rattle.index.specs.Letters.{right_count}
use Rattle.index.specs.Numbers.{First}
use Rattle.index.specs.Block.{count}
use Rattle.index.specs.Calls.{block_needs}
use Rattle.index.proofs.laws.Firsts.{first_map, with_last, without_last}
use Rattle.index.proofs.laws.block.Masks.{mask_map}
use Rattle.directory.specs.By.{By, directory_needs}
use Rattle.rights.specs.declared.Profile.TheVariants.{Ordinary, Strict}
use Rattle.rights.specs.Held.{chain_limit}
use Rattle.rights.specs.Profiles.{Denies, HoldsIn, ordinary, strict, IsProfile, profile_of}
use Rattle.rights.specs.Questions.{ask_needs, profile_needs, question_needs, Limited, Reports, HoldsAll, Answered, unreported, Full, Short, FullBy, ShortBy}
use Rattle.rights.proofs.laws.questions.OneAnswer.{accepted_full}
use Rattle.rights.proofs.laws.questions.ShortAgrees.{Covers}

module _ (b : List ℕ) (u o : ℕ) where
  -- The strict rights are among the ordinary ones.
  pub strict_within : (request m i j m' i' j' : ℕ) → Full b u o request ordinary (0, m, i, j) → Full b u o request strict (0, m', i', j')
      → Covers m m'
  unfolding Limited HoldsIn profile_of
  strict_within request m i j m' i' j' f f' k h in_strict =
      let s = ((accepted_full b u o request strict m' i' j' f').1.1.1 k h).0 in_strict in
      ((accepted_full b u o request ordinary m i j f).1.1.1 k h).1 (s.0.0, s.1)

  -- ---- where no P record counts a small letter

  module _ (none : (g s k : ℕ) → k < right_count → count b Permission g s (k + right_count) ≡ 0) where
    undenied : (k : ℕ) → k < right_count → HoldsIn Ordinary chain_limit b u o k ↔ HoldsIn Strict chain_limit b u o k
    unfolding HoldsIn Denies
    undenied k h = ((λ a. (a, λ d. omega (arith, d.denial.1, none d.g d.s k h))), (λ a. a.0))

    -- Both profiles give the same answer.
    pub same_full : (request : ℕ) (a : ℕ × ℕ × ℕ × ℕ) → Full b u o request ordinary a → Full b u o request strict a
    unfolding Full Limited question_needs block_needs IsProfile profile_of
    same_full request a f =
        let ts = block_needs b ++ ask_needs u o request in
        with_last unreported ts (profile_needs strict) (Reports Strict b u o request) a (inr refl, tt)
        (first_map unreported (Reports Ordinary b u o request) a (Reports Strict b u o request) ts
        (λ r. (r.0, mask_map r.1 _ (λ k h. ((λ q. ((undenied k h).0 q.0, q.1)), (λ q. ((undenied k h).1 q.0, q.1)))), r.2, r.3))
        (without_last unreported ts (profile_needs ordinary) (Reports Ordinary b u o request) a (inl refl, tt) f))

    pub same_short : (request : ℕ) (a : ℕ × ℕ) → Short b u o request ordinary a → Short b u o request strict a
    unfolding Short HoldsAll question_needs block_needs IsProfile profile_of
    same_short request a f =
        let ts = block_needs b ++ ask_needs u o request in
        with_last (λ n. (n, 0)) ts (profile_needs strict) (Answered Strict b u o request) a (inr refl, tt)
        (first_map (λ n. (n, 0)) (Answered Ordinary b u o request) a (Answered Strict b u o request) ts
        (λ r. (r.0, r.1, ((λ e k h i. (undenied k h).0 (r.2.0 e k h i)), (λ all. r.2.1 (λ k h i. (undenied k h).1 (all k h i))))))
        (without_last (λ n. (n, 0)) ts (profile_needs ordinary) (Answered Ordinary b u o request) a (inl refl, tt) f))

-- ---- "15, last"

-- A refusal with another number comes from the tests before it, and stays whatever the profile.
module _ {O : Type 0} (refused : ℕ → O) (number : O → ℕ) (of_refused : (n : ℕ) → number (refused n) ≡ n) (n : ℕ) (not15 : n ≡ 15 → ⊥)
    (accepted accepted' : O → Type 0) (not_accepted : accepted (refused n) → ⊥) (profile profile' : ℕ) where
  other : (ts : List (ℕ × Type 0)) → First refused (ts ++ profile_needs profile) accepted (refused n)
      → First refused (ts ++ profile_needs profile') accepted' (refused n)
  other [] (inl p) = absurd (not15 (omega (arith, of_refused n, of_refused 15, ap number p.1)))
  other [] (inr p) = absurd (not_accepted p.1)
  other (t ∷ ts) (inl p) = inl p
  other (t ∷ ts) (inr p) = inr (p.0, other ts p.1)

module _ (b : List ℕ) (u o request profile profile' n : ℕ) (some : 0 < n) (not15 : n ≡ 15 → ⊥) where
  pub full_refused : Full b u o request profile (unreported n) → Full b u o request profile' (unreported n)
  unfolding Full question_needs block_needs
  full_refused =
      other unreported (λ a. a.0) (λ n. refl) n not15 (Reports (profile_of profile) b u o request) (Reports (profile_of profile') b u o request)
      (λ r. omega (arith, r.0)) profile profile' (block_needs b ++ ask_needs u o request)

  pub short_refused : Short b u o request profile (n, 0) → Short b u o request profile' (n, 0)
  unfolding Short question_needs block_needs
  short_refused =
      other (λ n. (n, 0)) (λ a. a.0) (λ n. refl) n not15 (Answered (profile_of profile) b u o request)
      (Answered (profile_of profile') b u o request) (λ r. omega (arith, r.0)) profile profile' (block_needs b ++ ask_needs u o request)

  -- By a directory: 13 too is before it.
  module _ (d : List ℕ) where
    pub full_refused_by : FullBy b d u o request profile (unreported n) → FullBy b d u o request profile' (unreported n)
    unfolding FullBy By
    full_refused_by =
        first_map unreported (Full b u o request profile) (unreported n) (Full b u o request profile') (directory_needs b d) full_refused

    pub short_refused_by : ShortBy b d u o request profile (n, 0) → ShortBy b d u o request profile' (n, 0)
    unfolding ShortBy By
    short_refused_by =
        first_map (λ n. (n, 0)) (Short b u o request profile) (n, 0) (Short b u o request profile') (directory_needs b d) short_refused
