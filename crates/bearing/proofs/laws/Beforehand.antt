-- M-113: a list of messages about records that do not bear changes no answer, nor which records bear: it can be asked about beforehand.
use Prim.Native.Nat.{ℕ}
use mathlib.Core.Path.{refl, sym, subst, ◌∙◌}
use mathlib.Core.List.{List, [], ◌∷◌, ◌++◌}
use mathlib.Core.Logic.{inl, inr}
use Rattle.index.specs.Numbers.{Each, yes_no}
use Rattle.index.specs.Message.{Half, kind_of, kind_number}
use Rattle.index.specs.Wide.{Sent, previous_of, new_of}
use Rattle.index.specs.Calls.{block_needs}
use Rattle.index.proofs.laws.Firsts.{first_map, passed_first, past_first}
use mathlib.Core.Bool.{Bool, false}
use Rattle.std.specs.Prelude.{Result, Ok}
use Rattle.index.specs.declared.refusals.Refusal.{Refusal}
use Rattle.rights.specs.Questions.{YesWhen}
use Rattle.index.proofs.laws.Refusing.{means_map}
use Rattle.bearing.specs.Bearing.{Bears, record_needs, bears_needs, Bearing, AsksBearing}
use Rattle.bearing.specs.EqualAnswers.{Agree, SaysNo, Elsewhere, Sending, BearingEqual, AllChangeNoAnswer, AnyChangeNoAnswer}
use Rattle.bearing.specs.EqualAnswers.Sending.{nothing, next}
use Rattle.bearing.proofs.laws.Asking.{one_asks_bearing}
use Rattle.bearing.proofs.laws.Agreeing.{bears_in_both}
use Rattle.bearing.proofs.laws.Elsewhere.{SameOrAgree, sent_kept, none_moves, differs_agree}

-- What the call says of one block it says of the other.
module _ (b b' : List ℕ) (u o : ℕ) where
  bearing_on : (kind x y : ℕ) → SameOrAgree b b' u o → (r : Result Bool Refusal) → AsksBearing b u o kind x y r → AsksBearing b' u o kind x y r
  unfolding AsksBearing Bearing bears_needs block_needs
  bearing_on kind x y (inl e) r a = subst (λ (c : List ℕ). AsksBearing c u o kind x y r) e a
  bearing_on kind x y (inr (s, g, s', g', agree)) r a =
      means_map yes_no 0 (Bearing b u o kind x y) (Bearing b' u o kind x y)
      (λ c f.
      let same = bears_in_both b b' u o agree (kind_of kind) x y in
      let needs = record_needs u o kind x y in
      passed_first (λ n. (n, 0)) (block_needs b') needs (YesWhen (Bears b' u o (kind_of kind) x y)) c (s', (g', tt))
      (first_map (λ n. (n, 0)) (YesWhen (Bears b u o (kind_of kind) x y)) c (YesWhen (Bears b' u o (kind_of kind) x y)) needs
      (λ (y : YesWhen (Bears b u o (kind_of kind) x y) c). (y.0, y.1, ((λ e. same.0 (y.2.0 e)), (λ h. y.2.1 (same.1 h)))))
      (past_first (λ n. (n, 0)) (block_needs b) needs (YesWhen (Bears b u o (kind_of kind) x y)) c (s, (g, tt)) f))) r a

  elsewhere_on : SameOrAgree b b' u o → (hs : List Half) → Each (λ h. SaysNo b u o h.kind h.key h.id) hs → Each (λ h. SaysNo b' u o h.kind h.key h.id) hs
  elsewhere_on kept [] said = tt
  elsewhere_on kept (h ∷ hs) said =
      (bearing_on (kind_number h.kind) h.key h.id kept (Ok false) said.0, elsewhere_on kept hs said.1)

  all_elsewhere_on : SameOrAgree b b' u o → (ms : List Sent) → Each (Elsewhere b u o) ms → Each (Elsewhere b' u o) ms
  all_elsewhere_on kept [] all = tt
  all_elsewhere_on kept (m ∷ ms) all = (elsewhere_on kept (previous_of m ++ new_of m) all.0, all_elsewhere_on kept ms all.1)

-- One after the other.
kept_on : (b b₁ b' : List ℕ) (u o : ℕ) → SameOrAgree b b₁ u o → SameOrAgree b₁ b' u o → SameOrAgree b b' u o
unfolding Agree
kept_on b b₁ b' u o (inl e) k = subst (λ (c : List ℕ). SameOrAgree c b' u o) (sym e) k
kept_on b b₁ b' u o (inr k) (inl e) = subst (λ (c : List ℕ). SameOrAgree b c u o) e (inr k)
kept_on b b₁ b' u o (inr (s, g, s₁, g₁, agree)) (inr (s₂, g₂, s', g', agree')) =
    let same = bears_in_both b b₁ u o agree in
    inr (s, g, s', g', λ kind x y bears k l. agree kind x y bears k l ∙ agree' kind x y ((same kind x y).0 bears) k l)

sending_kept : (b : List ℕ) (ms : List Sent) (b' : List ℕ) (u o : ℕ) → Sending b ms b' → Each (Elsewhere b u o) ms → SameOrAgree b b' u o
sending_kept b ms b' u o nothing all = inl refl
sending_kept b ms b' u o (next {b₁ = b₁} {m = m} {ms = rest} n sends later) all =
    let first = sent_kept b m n b₁ u o sends all.0 in
    kept_on b b₁ b' u o first (sending_kept b₁ rest b' u o later (all_elsewhere_on b b₁ u o first rest all.1))

bearing_equal : (b b' : List ℕ) (u o : ℕ) → SameOrAgree b b' u o → BearingEqual b b' u o
bearing_equal b b' u o kept kind x y r r' a a' = one_asks_bearing b' u o kind x y r r' (bearing_on b b' u o kind x y kept r a) a'

pub all_change_no_answer : AllChangeNoAnswer
all_change_no_answer b ms b' u o sending all =
    let kept = sending_kept b ms b' u o sending all in
    (none_moves b b' u o kept, bearing_equal b b' u o kept)

-- ---- any other change

pub any_change_no_answer : AnyChangeNoAnswer
any_change_no_answer b b' u o s g s' g' differs =
    let kept : SameOrAgree b b' u o = inr (s, g, s', g', differs_agree b b' u o differs) in
    (none_moves b b' u o kept, bearing_equal b b' u o kept)
