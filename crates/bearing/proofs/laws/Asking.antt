-- M-113: whether a record bears: one answer, and what it says.
use Prim.Native.Nat.{ℕ}
use mathlib.Core.Path.{◌≡◌, refl, sym, subst}
use mathlib.Core.List.{List}
use mathlib.Core.Logic.{◌⊎◌, ◌↔◌, inl, inr}
use native.Mathlib.Omega.{arith}
use Rattle.index.specs.Numbers.{First, Answers, number, yes_no}
use Rattle.index.specs.Block.{IsName, Sized, Good}
use Rattle.index.specs.Message.{IsKind, kind_of}
use Rattle.index.specs.Calls.{block_needs}
use Rattle.index.proofs.laws.Firsts.{All, passed, refuses, first_all, first_passed, with_last, answers_first}
use Rattle.index.proofs.laws.message.SentTests.{block_late}
use Rattle.index.proofs.laws.OneFirst.{one_first}
use mathlib.Core.Bool.{Bool, true, false}
use Rattle.std.specs.Prelude.{Result, Ok, Err}
use Rattle.index.specs.declared.refusals.Refusal.{Refusal}
use Rattle.index.proofs.laws.Refusing.{some, means_map}
use Rattle.rights.specs.Chain.Chain.{here, through}
use Rattle.rights.specs.Groups.{Member}
use Rattle.rights.specs.Held.{Looked}
use Rattle.rights.specs.Questions.{YesWhen}
use Rattle.rights.specs.Near.{Near}
use Rattle.rights.proofs.laws.walk.MarksAreChains.{stays}
use Rattle.rights.proofs.laws.questions.OneAnswer.{one_yes, answer_once}
use Rattle.bearing.specs.Bearing.{Bears, record_needs, bears_needs, Bearing, AsksBearing}
use Rattle.bearing.specs.work.Telling.{Tells}

-- ---- the filters

-- What is reached by at most one record is the object or a group that its M records name.
by_one : (b : List ℕ) (o x : ℕ) → Near 1 b o x → (x ≡ o) ⊎ Member b o x
by_one b o x here = inl refl
by_one b o x (through y m c) = inr (subst (Member b o) (stays c) m)

pub looked : (b : List ℕ) (o x : ℕ) → Near 1 b o x ↔ Looked b o x
unfolding Looked
looked b o x = (by_one b o x, back)
  where
    back : (x ≡ o) ⊎ Member b o x → Near 1 b o x
    back (inl e) = subst (Near 1 b o) (sym e) here
    back (inr m) = through x m here

-- ---- the call

-- The names of a record that is not refused.
pub record_passed : (u o kind x y : ℕ) → Answers (record_needs u o kind x y) 0 → IsName u × (IsName o × (IsName x × IsName y))
unfolding record_needs
record_passed u o kind x y tested =
    let names = (passed (record_needs u o kind x y) (omega arith) refl tested).1.0 in
    (names.0, (names.1, (names.2, names.3)))

-- All that it needs.
pub record Asked (b : List ℕ) (u o kind x y : ℕ) : Type 0 where
  pub sized : Sized b
  pub good : Good b
  pub is_kind : IsKind kind
  pub user : IsName u
  pub object : IsName o
  pub key : IsName x
  pub id : IsName y

module _ (b : List ℕ) (u o kind x y : ℕ) where
  abbrev refusal : ℕ → ℕ × ℕ
  refusal n = (n, 0)

  abbrev Said : ℕ × ℕ → Type 0
  Said a = YesWhen (Bears b u o (kind_of kind) x y) a

  all_asked : Asked b u o kind x y → All (bears_needs b u o kind x y)
  unfolding bears_needs record_needs block_needs
  all_asked h = (h.sized, (h.good, (h.is_kind, ((h.user, h.object, h.key, h.id), tt))))

  asked_all : All (bears_needs b u o kind x y) → Asked b u o kind x y
  unfolding bears_needs record_needs block_needs
  asked_all h =
      let names = h.1.1.1.0 in
      record { sized = h.0; good = h.1.0; is_kind = h.1.1.0; user = names.0; object = names.1; key = names.2; id = names.3 }

  -- ---- for the code

  -- A record that is refused: for the block first.
  pub refused_block : (e : Refusal) → Answers (block_needs b) (number e) → AsksBearing b u o kind x y (Err e)
  unfolding AsksBearing Bearing bears_needs
  refused_block e a = refuses refusal Said (bears_needs b u o kind x y) (some e) (answers_first (block_needs b) (record_needs u o kind x y) (some e) a)

  pub refused : (e : Refusal) → Answers (block_needs b) 0 → Answers (record_needs u o kind x y) (number e) → AsksBearing b u o kind x y (Err e)
  unfolding AsksBearing Bearing bears_needs
  refused e a tested = refuses refusal Said (bears_needs b u o kind x y) (some e) (block_late b (record_needs u o kind x y) (number e) refl a tested)

  -- And one that is not.
  pub told : Answers (record_needs u o kind x y) 0 → (r : Result Bool Refusal) → Tells b (Bears b u o (kind_of kind) x y) r
      → AsksBearing b u o kind x y r
  unfolding AsksBearing Bearing bears_needs record_needs Tells
  told tested r =
      means_map yes_no 0 (λ a. First refusal (block_needs b) Said a) (Bearing b u o kind x y)
      (λ a. with_last refusal (block_needs b) (record_needs u o kind x y) Said a (passed (record_needs u o kind x y) (omega arith) refl tested)) r

  -- ---- what a yes or no rests on

  says : Asked b u o kind x y → (a : ℕ × ℕ) → Said a → Bearing b u o kind x y a
  unfolding Bearing
  says all a said = first_all refusal Said a (bears_needs b u o kind x y) (all_asked all) said

  pub says_yes : Asked b u o kind x y → Bears b u o (kind_of kind) x y → AsksBearing b u o kind x y (Ok true)
  unfolding AsksBearing
  says_yes all bears = says all (0, 1) (refl, omega arith, ((λ e. bears), (λ h. refl)))

  pub says_no : Asked b u o kind x y → (Bears b u o (kind_of kind) x y → ⊥) → AsksBearing b u o kind x y (Ok false)
  unfolding AsksBearing
  says_no all not = says all (0, 0) (refl, omega arith, ((λ e. absurd (omega arith)), (λ h. absurd (not h))))

  -- ---- what a no says

  pub said_no : AsksBearing b u o kind x y (Ok false) → Asked b u o kind x y × (Bears b u o (kind_of kind) x y → ⊥)
  unfolding AsksBearing Bearing bears_needs record_needs block_needs
  said_no said =
      let r = first_passed refusal Said (0, 0) (λ a. a.0) (λ n. refl) (bears_needs b u o kind x y) (omega arith) refl said in
      (asked_all r.0, λ bears. omega (arith, r.1.2.1 bears))

  -- ---- no second answer

  pub one_bearing : (a c : ℕ × ℕ) → Bearing b u o kind x y a → Bearing b u o kind x y c → a ≡ c
  unfolding Bearing
  one_bearing = one_first refusal (bears_needs b u o kind x y) Said (one_yes (Bears b u o (kind_of kind) x y))

  pub one_asks_bearing : (r s : Result Bool Refusal) → AsksBearing b u o kind x y r → AsksBearing b u o kind x y s → r ≡ s
  unfolding AsksBearing
  one_asks_bearing = answer_once (Bearing b u o kind x y) one_bearing
