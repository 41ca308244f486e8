-- M-113: a message about records that do not bear changes no answer, nor does any other change of such records.
use Prim.Native.Nat.{ℕ, suc}
use mathlib.Core.Path.{◌≡◌, refl, sym, ap, subst}
use mathlib.Core.List.{List, [], ◌∷◌}
use mathlib.Core.Logic.{◌⊎◌, inl, inr}
use native.Mathlib.Omega.{arith}
use native.Mathlib.Decide.{ℕ_discrete}
use Rattle.index.specs.declared.Kind.{Kind}
use Rattle.index.specs.Numbers.{Each}
use Rattle.index.specs.Block.{Sized, Good, count}
use Rattle.index.specs.Message.{Half, kind_number, changes, Carried}
use Rattle.index.specs.Wide.{Sent, previous_of, new_of}
use Rattle.index.specs.Calls.{Sends, sent_needs, block_needs}
use Rattle.index.specs.History.{moves_of}
use Rattle.index.proofs.laws.Firsts.{first_passed}
use Rattle.index.proofs.laws.demands.AnyOrder.{balance}
use Rattle.index.proofs.laws.demands.Standing.{downs, ups}
use Rattle.index.proofs.laws.demands.Unchanged.{sent_unchanged}
use Rattle.index.proofs.laws.message.HalfLetters.{Hits, numbered, moves_none}
use Rattle.index.proofs.laws.message.Halves.{each_part}
use Rattle.rights.specs.Questions.{Full, Short}
use Rattle.rights.proofs.laws.questions.OneAnswer.{one_full, one_short}
use Rattle.bearing.specs.Bearing.{Bears}
use Rattle.bearing.specs.EqualAnswers.{Agree, NoAnswerMoves, SaysNo, Elsewhere, ChangesNoAnswer, DiffersElsewhere}
use Rattle.bearing.proofs.laws.Asking.{said_no}
use Rattle.bearing.proofs.laws.EqualAnswers.{same_full, same_short, answers_equal, answers_equal_by}

-- What an accepted message says of the block.
sent_good : (b : List ℕ) (m : Sent) (b' : List ℕ) → Sends b m (0, b') → Sized b × Good b
unfolding Sends sent_needs block_needs
sent_good b m b' sends =
    let all = (first_passed (λ n. (n, b)) (Carried b (changes (previous_of m) (new_of m)) b) (0, b') (λ o. o.0) (λ n. refl) (sent_needs b m) (omega arith) refl sends).0 in
    (all.0, all.1.0)

-- ---- no count of a record that bears moves

module _ (b : List ℕ) (u o : ℕ) (kind : Kind) (x y : ℕ) (bears : Bears b u o kind x y) where
  not_hit : (h : Half) → SaysNo b u o h.kind h.key h.id → Hits h kind x y → ⊥
  not_hit h said (e, p, q) =
      (said_no b u o (kind_number h.kind) h.key h.id said).1
      (rw (numbered h.kind, e, p, q) bears)

  not_moved : (hs : List Half) → Each (λ h. SaysNo b u o h.kind h.key h.id) hs → (k : ℕ) → moves_of hs kind x y k ≡ 0
  unfolding moves_of
  not_moved [] said k = refl
  not_moved (h ∷ hs) said k = omega (arith, moves_none h kind x y k (not_hit h said.0), not_moved hs said.1 k)

-- ---- the message

module _ (b : List ℕ) (m : Sent) (u o : ℕ) (elsewhere : Elsewhere b u o m) where
  agrees : (b' : List ℕ) → Sends b m (0, b') → Agree b b' u o
  unfolding Agree
  agrees b' sends kind x y bears k l =
      let (before, after) = each_part (λ h. SaysNo b u o h.kind h.key h.id) (previous_of m) (new_of m) elsewhere in
      omega (
        arith,
        (balance b m b' sends).counts kind x y k l,
        downs kind x y k (previous_of m) (new_of m),
        ups kind x y k (previous_of m) (new_of m),
        not_moved b u o kind x y bears (previous_of m) before k,
        not_moved b u o kind x y bears (new_of m) after k,
      )

-- ---- what is kept

-- A block is the other, or both are good and agree.
abbrev pub SameOrAgree : List ℕ → List ℕ → ℕ → ℕ → Type 0
SameOrAgree b b' u o = (b ≡ b') ⊎ (Sized b × Good b × Sized b' × Good b' × Agree b b' u o)

pub sent_kept : (b : List ℕ) (m : Sent) (n : ℕ) (b' : List ℕ) (u o : ℕ) → Sends b m (n, b') → Elsewhere b u o m → SameOrAgree b b' u o
unfolding Sized
sent_kept b m ℕ.zero b' u o sends elsewhere =
    let (s, g) = sent_good b m b' sends in
    let after = balance b m b' sends in
    let s' : Sized b' = (omega (arith, s.0, after.same_length), omega (arith, s.1, after.same_length)) in
    inr (s, g, s', after.good g, agrees b m u o elsewhere b' sends)
sent_kept b m (suc n) b' u o sends elsewhere =
    inl (sym (ap (λ (a : ℕ × List ℕ). a.1) (sent_unchanged b m (suc n, b') sends (omega arith)).1))

module _ (b b' : List ℕ) (u o : ℕ) where
  full_kept : SameOrAgree b b' u o → (profile request : ℕ) (a a' : ℕ × ℕ × ℕ × ℕ) → Full b u o request profile a → Full b' u o request profile a' → a ≡ a'
  full_kept (inl e) profile = λ request a a' f f'. one_full b u o request profile a a' f (rw e f')
  full_kept (inr (s, g, s', g', agree)) profile = same_full b b' u o s g s' g' agree profile

  short_kept : SameOrAgree b b' u o → (profile request : ℕ) (a a' : ℕ × ℕ) → Short b u o request profile a → Short b' u o request profile a' → a ≡ a'
  short_kept (inl e) profile = λ request a a' f f'. one_short b u o request profile a a' f (rw e f')
  short_kept (inr (s, g, s', g', agree)) profile = same_short b b' u o s g s' g' agree profile

  pub none_moves : SameOrAgree b b' u o → NoAnswerMoves b b' u o
  none_moves kept profile = (
    answers_equal b b' u o profile (full_kept kept profile) (short_kept kept profile),
    answers_equal_by b b' u o profile (full_kept kept profile) (short_kept kept profile),
  )

pub changes_no_answer : ChangesNoAnswer
changes_no_answer b m n b' u o sends elsewhere = none_moves b b' u o (sent_kept b m n b' u o sends elsewhere)

-- ---- any other change

pub differs_agree : (b b' : List ℕ) (u o : ℕ) → DiffersElsewhere b b' u o → Agree b b' u o
unfolding Agree
differs_agree b b' u o differs kind x y bears k l =
    elim (ℕ_discrete (count b kind x y k) (count b' kind x y k)) [
      | yes e ↦ e
      | no ne ↦
          absurd
          ((said_no b u o (kind_number kind) x y (differs kind x y (λ same. ne (same k l)))).1
          (subst (λ (K : Kind). Bears b u o K x y) (sym (numbered kind)) bears))
    ]
