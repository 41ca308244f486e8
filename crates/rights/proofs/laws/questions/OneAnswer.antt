-- No second answer to a question satisfies the same promise; and what an accepted full one says.
use Prim.Native.Nat.{ℕ, suc, ◌<◌}
use mathlib.Core.Path.{◌≡◌, refl, sym, ◌∙◌}
use mathlib.Core.Bool.{Bool, true, false}
use mathlib.Core.List.{List}
use mathlib.Core.Logic.{◌⊎◌, ◌↔◌, inl, inr, ⊎_elim}
use native.Mathlib.Omega.{arith}
use Rattle.std.specs.Prelude.{Result}
use Rattle.index.specs.declared.refusals.Refusal.{Refusal}
use Rattle.index.specs.Numbers.{yes_no}
use Rattle.index.specs.work.Checks.{Says}
use Rattle.index.specs.Calls.{block_needs}
use Rattle.index.proofs.laws.Firsts.{All, first_passed}
use Rattle.index.proofs.laws.block.Masks.{mask_one}
use Rattle.index.proofs.laws.OneFirst.{one_first}
use Rattle.index.proofs.laws.OneResult.{means_same, one_yes_no}
use Rattle.rights.specs.declared.grants.Reach.{Reach}
use Rattle.rights.specs.Profiles.{profile_of}
use Rattle.rights.specs.Questions.{question_needs, Limited, Reports, HoldsAll, YesWhen, Answered, unreported, Full, Short, reach_value, RightsMean, AnswerMeans, GivenMeans, Asks, AsksAll}
use Rattle.rights.proofs.laws.examined.ExaminedOnce.{examined_once}

one_bit : {H : Type 0} (m n : ℕ) → m < 2 → n < 2 → (m ≡ 1) ↔ H → (n ≡ 1) ↔ H → m ≡ n
one_bit m n hm hn p q =
    ⊎_elim (λ z. ⊎_elim (λ y. z ∙ sym y) (λ e. p.1 (q.0 e) ∙ sym e) (bit n hn)) (λ e. e ∙ sym (q.1 (p.0 e)))
    (bit m hm)
  where
    bit : (k : ℕ) → k < 2 → (k ≡ 0) ⊎ (k ≡ 1)
    bit ℕ.zero h = inl (omega arith)
    bit (suc ℕ.zero) h = inr (omega arith)
    bit (suc (suc k)) h = absurd (omega arith)

-- A yes or no that is right.
pub said_yes : (P : Type 0) (t : Bool) → Says P t → YesWhen P (0, yes_no t)
said_yes P true p = (refl, omega arith, ((λ e. p), (λ q. refl)))
said_yes P false none = (refl, omega arith, ((λ e. absurd (omega arith)), (λ p. absurd (none p))))

-- Two of them.
pub one_yes : (P : Type 0) (a c : ℕ × ℕ) → YesWhen P a → YesWhen P c → a ≡ c
one_yes P a c p q =
    let n : a.0 ≡ c.0 = p.0 ∙ sym q.0 in
    let m : a.1 ≡ c.1 = one_bit a.1 c.1 p.1 q.1 p.2 q.2 in
    λ i. (n i, m i)

module _ (b : List ℕ) (u o request profile : ℕ) where
  pub one_full : (a c : ℕ × ℕ × ℕ × ℕ) → Full b u o request profile a → Full b u o request profile c → a ≡ c
  unfolding Full Limited
  one_full =
      one_first unreported (question_needs b u o request profile) (Reports (profile_of profile) b u o request)
      (λ a c p q.
      let n : a.0 ≡ c.0 = p.0 ∙ sym q.0 in
      let m : a.1 ≡ c.1 = mask_one p.1 q.1 in
      let x : a.2 ≡ c.2 = examined_once p.2 q.2 in
      let y : a.3 ≡ c.3 = examined_once p.3 q.3 in
      λ i. (n i, m i, x i, y i))

  pub one_short : (a c : ℕ × ℕ) → Short b u o request profile a → Short b u o request profile c → a ≡ c
  unfolding Short
  one_short =
      one_first (λ n. (n, 0)) (question_needs b u o request profile) (Answered (profile_of profile) b u o request)
      (one_yes (HoldsAll (profile_of profile) b u o request))

-- ---- the same for the answers of the code, of any question with one outcome

one_reach : (a b : Reach) → reach_value a ≡ reach_value b → a ≡ b
one_reach a b e = λ i. record { rights = (e i).0; user = (e i).1; object = (e i).2 }

-- Where every two outcomes of P and of Q are the same, so are the answers.
pub rights_same : (P Q : ℕ × ℕ × ℕ × ℕ → Type 0) → ((a c : ℕ × ℕ × ℕ × ℕ) → P a → Q c → a ≡ c) → (r s : Result Reach Refusal) → RightsMean P r
    → RightsMean Q s → r ≡ s
rights_same P Q same =
    means_same reach_value (0, 0, 0) one_reach (λ o. P (o.0, o.1.0, o.1.1, o.1.2)) (λ o. Q (o.0, o.1.0, o.1.1, o.1.2))
    (λ o o' p q. let e = same _ _ p q in λ i. ((e i).0, ((e i).1, (e i).2, (e i).3)))

pub answer_same : (P Q : ℕ × ℕ → Type 0) → ((a c : ℕ × ℕ) → P a → Q c → a ≡ c) → (r s : Result Bool Refusal) → AnswerMeans P r → AnswerMeans Q s
    → r ≡ s
answer_same = means_same yes_no 0 one_yes_no

pub given_same : (P Q : ℕ × ℕ → Type 0) → ((a c : ℕ × ℕ) → P a → Q c → a ≡ c) → (r s : Result ℕ Refusal) → GivenMeans P r → GivenMeans Q s → r ≡ s
given_same = means_same (λ mask. mask) 0 (λ a b e. e)

pub rights_once : (Outcome : ℕ × ℕ × ℕ × ℕ → Type 0) → ((a c : ℕ × ℕ × ℕ × ℕ) → Outcome a → Outcome c → a ≡ c) → (r s : Result Reach Refusal)
    → RightsMean Outcome r → RightsMean Outcome s → r ≡ s
rights_once Outcome = rights_same Outcome Outcome

pub answer_once : (Outcome : ℕ × ℕ → Type 0) → ((a c : ℕ × ℕ) → Outcome a → Outcome c → a ≡ c) → (r s : Result Bool Refusal)
    → AnswerMeans Outcome r → AnswerMeans Outcome s → r ≡ s
answer_once Outcome = answer_same Outcome Outcome

module _ (b : List ℕ) (u o request profile : ℕ) where
  pub one_asks : (r s : Result Reach Refusal) → Asks b u o request profile r → Asks b u o request profile s → r ≡ s
  unfolding Asks
  one_asks = rights_once (Full b u o request profile) (one_full b u o request profile)

  pub one_asks_all : (r s : Result Bool Refusal) → AsksAll b u o request profile r → AsksAll b u o request profile s → r ≡ s
  unfolding AsksAll
  one_asks_all = answer_once (Short b u o request profile) (one_short b u o request profile)

-- What an accepted answer says: its requirements hold, its mask is of the rights held, and its numbers are of the records examined.
pub accepted_full : (b : List ℕ) (u o request profile mask i j : ℕ) → Full b u o request profile (0, mask, i, j)
    → All (question_needs b u o request profile) × Reports (profile_of profile) b u o request (0, mask, i, j)
unfolding Full question_needs block_needs
accepted_full b u o request profile mask i j h =
    first_passed unreported (Reports (profile_of profile) b u o request) (0, mask, i, j) (λ a. a.0) (λ n. refl)
    (question_needs b u o request profile) (omega arith) refl h

-- M-109: "Request, filter and markers have no part in it", nor has the profile: two requests about the same user and object, in whichever
-- profiles, get the same numbers.
pub same_numbers : (b : List ℕ) (u o q q' p p' m m' i i' j j' : ℕ) → Full b u o q p (0, m, i, j) → Full b u o q' p' (0, m', i', j')
    → (i ≡ i') × (j ≡ j')
same_numbers b u o q q' p p' m m' i i' j j' f f' =
    let r = (accepted_full b u o q p m i j f).1 in
    let r' = (accepted_full b u o q' p' m' i' j' f').1 in
    (examined_once r.2 r'.2, examined_once r.3 r'.3)
