-- M-113: the theorem, over what the public functions promise, without a directory and by one.
use Prim.Native.Nat.{ℕ}
use mathlib.Core.Path.{◌≡◌, refl, sym, ◌∙◌}
use mathlib.Core.List.{List, ◌++◌}
use mathlib.Core.Logic.{◌↔◌, inl, inr, ⊎_elim}
use native.Mathlib.Omega.{arith}
use Rattle.index.specs.Numbers.{First}
use Rattle.index.specs.Block.{Sized, Good}
use Rattle.index.specs.Calls.{block_needs}
use Rattle.index.proofs.laws.Firsts.{past_first}
use Rattle.index.proofs.laws.block.Masks.{mask_map, mask_one}
use Rattle.directory.specs.Directory.{Own}
use Rattle.rights.specs.declared.Profile.{Profile}
use Rattle.rights.specs.Profiles.{HoldsIn, profile_of}
use Rattle.rights.specs.Questions.{ask_needs, profile_needs, question_needs, unreported, Limited, Reports, HoldsAll, Answered, Full, Short, FullBy, ShortBy, Asks, AsksAll, AsksBy, AsksAllBy}
use Rattle.rights.proofs.laws.questions.OneAnswer.{one_yes, rights_same, answer_same}
use Rattle.rights.proofs.laws.questions.SameAnswers.{own_full, own_short}
use Rattle.rights.proofs.laws.questions.ShortAgrees.{first_both}
use Rattle.bearing.specs.EqualAnswers.{Agree, AnswersEqual, AnswersEqualBy, EqualAnswers, EqualAnswersBy}
use Rattle.bearing.proofs.laws.SameRights.{same_rights}
use Rattle.bearing.proofs.laws.SameNumbers.{same_numbers}

module _ (b b' : List ℕ) (u o : ℕ) (sized : Sized b) (good : Good b) (sized' : Sized b') (good' : Good b') (agree : Agree b b' u o)
    (profile request : ℕ) where
  -- What is asked of the names, the request and the profile is the same of both.
  abbrev asked : List (ℕ × Type 0)
  asked = ask_needs u o request ++ profile_needs profile

  past_block : {O : Type 0} (c : List ℕ) → Sized c → Good c → (refused : ℕ → O) (accepted : O → Type 0) (a : O)
      → First refused (question_needs c u o request profile) accepted a → First refused asked accepted a
  unfolding question_needs block_needs
  past_block c s g refused accepted a = past_first refused (block_needs c) asked accepted a (s, (g, tt))

  abbrev p : Profile
  p = profile_of profile

  held : (k : ℕ) → HoldsIn p 32 b u o k ↔ HoldsIn p 32 b' u o k
  held k = same_rights b b' u o p k agree

  pub same_full : (a a' : ℕ × ℕ × ℕ × ℕ) → Full b u o request profile a → Full b' u o request profile a' → a ≡ a'
  unfolding Full Limited
  same_full a a' f f' =
      ⊎_elim (λ r. r.2 ∙ sym r.3)
      (λ r.
      let (x, y) = r in
      let n : a.0 ≡ a'.0 = x.0 ∙ sym y.0 in
      let m : a.1 ≡ a'.1 =
      mask_one (mask_map x.1 _ (λ k l. ((λ h. ((held k).0 h.0, h.1)), (λ h. ((held k).1 h.0, h.1))))) y.1 in
      let v : a.2 ≡ a'.2 = same_numbers b b' u o u agree (inl refl) good good' 32 a.2 a'.2 (omega arith) x.2 y.2 in
      let w : a.3 ≡ a'.3 = same_numbers b b' u o o agree (inr refl) good good' 32 a.3 a'.3 (omega arith) x.3 y.3 in
      λ i. (n i, m i, v i, w i))
      (first_both unreported unreported asked (Reports p b u o request) (Reports p b' u o request) a a' (omega arith)
      (past_block b sized good unreported (Reports p b u o request) a f)
      (past_block b' sized' good' unreported (Reports p b' u o request) a' f'))

  holds_all : HoldsAll p b u o request ↔ HoldsAll p b' u o request
  unfolding HoldsAll
  holds_all = ((λ h k l i. (held k).0 (h k l i)), (λ h k l i. (held k).1 (h k l i)))

  pub same_short : (a a' : ℕ × ℕ) → Short b u o request profile a → Short b' u o request profile a' → a ≡ a'
  unfolding Short
  same_short a a' f f' =
      ⊎_elim (λ r. r.2 ∙ sym r.3)
      (λ r.
      let (x, y) = r in
      one_yes (HoldsAll p b u o request) a a' x (y.0, y.1, ((λ e. holds_all.1 (y.2.0 e)), (λ h. y.2.1 (holds_all.0 h)))))
      (first_both (λ n. (n, 0)) (λ n. (n, 0)) asked (Answered p b u o request) (Answered p b' u o request) a a' (omega arith)
      (past_block b sized good (λ n. (n, 0)) (Answered p b u o request) a f)
      (past_block b' sized' good' (λ n. (n, 0)) (Answered p b' u o request) a' f'))

-- Where the outcomes are the same, so are the answers, without a directory and by the blocks' own.
module _ (b b' : List ℕ) (u o profile : ℕ)
    (full : (request : ℕ) (a a' : ℕ × ℕ × ℕ × ℕ) → Full b u o request profile a → Full b' u o request profile a' → a ≡ a')
    (short : (request : ℕ) (a a' : ℕ × ℕ) → Short b u o request profile a → Short b' u o request profile a' → a ≡ a') where
  pub answers_equal : AnswersEqual b b' u o profile
  unfolding Asks AsksAll
  answers_equal request = (
    rights_same (Full b u o request profile) (Full b' u o request profile) (full request),
    answer_same (Short b u o request profile) (Short b' u o request profile) (short request),
  )

  module _ (d d' : List ℕ) (own : Own b d) (own' : Own b' d') where
    pub full_by : (request : ℕ) (a a' : ℕ × ℕ × ℕ × ℕ) → FullBy b d u o request profile a → FullBy b' d' u o request profile a' → a ≡ a'
    full_by request a a' f f' =
        full request a a' ((own_full b u o request profile d a own).0 f) ((own_full b' u o request profile d' a' own').0 f')

    pub short_by : (request : ℕ) (a a' : ℕ × ℕ) → ShortBy b d u o request profile a → ShortBy b' d' u o request profile a' → a ≡ a'
    short_by request a a' f f' =
        short request a a' ((own_short b u o request profile d a own).0 f) ((own_short b' u o request profile d' a' own').0 f')

    pub answers_equal_by : AnswersEqualBy b d b' d' u o profile
    unfolding AsksBy AsksAllBy
    answers_equal_by request = (
      rights_same (FullBy b d u o request profile) (FullBy b' d' u o request profile) (full_by request),
      answer_same (ShortBy b d u o request profile) (ShortBy b' d' u o request profile) (short_by request),
    )

pub equal_answers : EqualAnswers
equal_answers b b' u o profile s g s' g' agree =
    answers_equal b b' u o profile (same_full b b' u o s g s' g' agree profile) (same_short b b' u o s g s' g' agree profile)

pub equal_answers_by : EqualAnswersBy
equal_answers_by b d b' d' u o profile s g s' g' own own' agree =
    answers_equal_by b b' u o profile (same_full b b' u o s g s' g' agree profile) (same_short b b' u o s g s' g' agree profile) d d' own own'
