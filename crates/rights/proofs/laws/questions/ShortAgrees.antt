-- M-112: "The short question still agrees with the full one." On every input, in each profile, and by a directory.
use Prim.Native.Nat.{ℕ, ◌<◌, ◌≤◌}
use mathlib.Core.Path.{◌≡◌, refl, sym, ap, ◌∙◌}
use mathlib.Core.List.{List, [], ◌∷◌}
use mathlib.Core.Logic.{◌⊎◌, ◌↔◌, inl, inr, ⊎_elim}
use native.Mathlib.Omega.{arith}
use Rattle.std.specs.Prelude.{Bool, true, false, Result, Ok, Err}
use Rattle.index.specs.declared.refusals.Refusal.{Refusal}
use Rattle.index.specs.Letters.{right_count, all_rights, In}
use Rattle.index.specs.Numbers.{First}
use Rattle.index.specs.Calls.{block_needs}
use Rattle.index.proofs.laws.Firsts.{Positive, All, first_all}
use Rattle.index.proofs.laws.Refusing.{above, once}
use Rattle.directory.specs.By.{By, directory_needs}
use Rattle.rights.specs.declared.grants.Reach.{Reach}
use Rattle.rights.specs.Profiles.{profile_of}
use Rattle.rights.specs.Questions.{question_needs, Limited, HoldsAll, Reports, Answered, unreported, Full, Short, FullBy, ShortBy, RightsMean, AnswerMeans, Asks, AsksAll, AsksBy, AsksAllBy}
use Rattle.rights.proofs.laws.questions.OneAnswer.{accepted_full}

-- Every requested right is in the mask.
abbrev pub Covers : ℕ → ℕ → Type 0
Covers mask request = (k : ℕ) → k < right_count → In k request → In k mask

-- Yes exactly where the full answer has every requested right, and the same refusals.
abbrev pub AnswersAgree : ℕ → Result Reach Refusal → Result Bool Refusal → Type 0
AnswersAgree request (Ok reach) (Ok true) = Covers reach.rights request
AnswersAgree request (Ok reach) (Ok false) = Covers reach.rights request → ⊥
AnswersAgree request (Ok reach) (Err e) = ⊥
AnswersAgree request (Err e) (Ok t) = ⊥
AnswersAgree request (Err e) (Err f) = e ≡ f

-- Two calls with the same requirements are refused with the same number, or both accepted.
pub first_both : {O P : Type 0} (f : ℕ → O) (g : ℕ → P) (ts : List (ℕ × Type 0)) (A : O → Type 0) (B : P → Type 0) (a : O) (b : P)
    → Positive ts → First f ts A a → First g ts B b → ((n : ℕ) × (0 < n) × (a ≡ f n) × (b ≡ g n)) ⊎ (A a × B b)
first_both f g [] A B a b s p q = inr (p, q)
first_both f g (t ∷ ts) A B a b s (inl p) (inl q) = inl (t.0, s.0, p.1, q.1)
first_both f g (t ∷ ts) A B a b s (inl p) (inr q) = absurd (p.0 q.0)
first_both f g (t ∷ ts) A B a b s (inr p) (inl q) = absurd (q.0 p.0)
first_both f g (t ∷ ts) A B a b s (inr p) (inr q) = first_both f g ts A B a b s.1 p.1 q.1

-- The two outcomes, with the same refusal, or both accepted.
abbrev Both : ℕ → ℕ × ℕ × ℕ × ℕ → ℕ × ℕ → Type 0
Both request a c =
    ((n : ℕ) × (0 < n) × (a ≡ unreported n) × (c ≡ (n, 0))) ⊎ ((a.0 ≡ 0) × (c.0 ≡ 0) × ((c.1 ≡ 1) ↔ Covers a.1 request))

fst : {a c : ℕ × ℕ} → a ≡ c → a.0 ≡ c.0
fst e = ap (λ (p : ℕ × ℕ). p.0) e

first : {a c : ℕ × ℕ × ℕ × ℕ} → a ≡ c → a.0 ≡ c.0
first e = ap (λ (p : ℕ × ℕ × ℕ × ℕ). p.0) e

-- Where they are so, the answers of the code agree.
agree : (request : ℕ) (P : ℕ × ℕ × ℕ × ℕ → Type 0) (Q : ℕ × ℕ → Type 0) → ((a : ℕ × ℕ × ℕ × ℕ) (c : ℕ × ℕ) → P a → Q c → Both request a c)
    → (r : Result Reach Refusal) (a : Result Bool Refusal) → RightsMean P r → AnswerMeans Q a → AnswersAgree request r a
agree request P Q both (Ok reach) (Ok true) p q =
    ⊎_elim (λ r. absurd (omega (arith, r.1, first r.2))) (λ r. r.2.0 (omega arith)) (both _ _ p q)
agree request P Q both (Ok reach) (Ok false) p q =
    ⊎_elim (λ r. absurd (omega (arith, r.1, first r.2))) (λ r all. omega (arith, r.2.1 all)) (both _ _ p q)
agree request P Q both (Ok reach) (Err e) p q =
    ⊎_elim (λ r. omega (arith, r.1, first r.2)) (λ r. omega (arith, r.1, above e)) (both _ _ p q)
agree request P Q both (Err e) (Ok t) p q =
    ⊎_elim (λ r. omega (arith, r.1, fst r.3)) (λ r. omega (arith, r.0, above e)) (both _ _ p q)
agree request P Q both (Err e) (Err f) p q =
    ⊎_elim (λ r. once e f (first r.2 ∙ sym (fst r.3))) (λ r. absurd (omega (arith, r.0, above e))) (both _ _ p q)

module _ (b : List ℕ) (u o request profile : ℕ) where
  both : (a : ℕ × ℕ × ℕ × ℕ) (c : ℕ × ℕ) → Full b u o request profile a → Short b u o request profile c → Both request a c
  unfolding Full Short Limited HoldsAll question_needs block_needs
  both a c p q =
      ⊎_elim (λ r. inl r)
      (λ r.
      let full = r.0.1.1 in
      let short = r.1.2 in
      inr (
        r.0.0,
        r.1.0,
        (
          (λ e k h i. (full k h).1 (short.0 e k h i, i)),
          (λ all. short.1 (λ k h i. ((full k h).0 (all k h i)).0)),
        ),
      ))
      (first_both unreported (λ n. (n, 0)) (question_needs b u o request profile) (Reports (profile_of profile) b u o request)
      (Answered (profile_of profile) b u o request) a c (omega arith) p q)

  pub short_agrees : (r : Result Reach Refusal) (a : Result Bool Refusal) → Asks b u o request profile r → AsksAll b u o request profile a → AnswersAgree request r a
  unfolding Asks AsksAll
  short_agrees = agree request (Full b u o request profile) (Short b u o request profile) both

  -- By a directory.
  module _ (d : List ℕ) where
    both_by : (a : ℕ × ℕ × ℕ × ℕ) (c : ℕ × ℕ) → FullBy b d u o request profile a → ShortBy b d u o request profile c → Both request a c
    unfolding FullBy ShortBy By directory_needs block_needs
    both_by a c p q =
        ⊎_elim (λ r. inl r) (λ r. both a c r.0 r.1)
        (first_both unreported (λ n. (n, 0)) (directory_needs b d) (Full b u o request profile) (Short b u o request profile) a c (omega arith) p q)

    pub short_agrees_by : (r : Result Reach Refusal) (a : Result Bool Refusal) → AsksBy b d u o request profile r → AsksAllBy b d u o request profile a
        → AnswersAgree request r a
    unfolding AsksBy AsksAllBy
    short_agrees_by = agree request (FullBy b d u o request profile) (ShortBy b d u o request profile) both_by

-- ---- the short answer to a request, from the full answer to another

module _ (b : List ℕ) (u o request profile mask i j : ℕ) (full : Full b u o request profile (0, mask, i, j)) (q : ℕ) (some : 1 ≤ q) (few : q ≤ all_rights) where
  -- What the question needs holds for both.
  asked : All (question_needs b u o q profile)
  unfolding question_needs block_needs
  asked = let all = (accepted_full b u o request profile mask i j full).0 in (all.0, (all.1.0, (all.1.1.0, ((some, few), all.1.1.1.1))))

  -- Every right of it is in the mask.
  pub short_yes : Covers mask q → Short b u o q profile (0, 1)
  unfolding Short Limited HoldsAll
  short_yes covers =
      let held = (accepted_full b u o request profile mask i j full).1.1.1 in
      first_all _ _ (0, 1) (question_needs b u o q profile) asked
      (refl, omega arith, ((λ e k h i. ((held k h).0 (covers k h i)).0), (λ all. refl)))

  -- One that was requested both times is not.
  pub short_no : (k : ℕ) → k < right_count → In k q → In k request → (In k mask → ⊥) → Short b u o q profile (0, 0)
  unfolding Short Limited HoldsAll
  short_no k h asked_k r none =
      let held = (accepted_full b u o request profile mask i j full).1.1.1 in
      first_all _ _ (0, 0) (question_needs b u o q profile) asked
      (refl, omega arith, ((λ e. absurd (omega arith)), (λ all. absurd (none ((held k h).1 (all k h asked_k, r))))))
