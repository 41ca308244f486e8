-- Two changes, or the first and its way back.
use mathlib.Core.Path.{◌≡◌, refl, sym, ◌∙◌}
use mathlib.Core.List.{List, [], ◌∷◌}
use Prim.Native.Nat.{ℕ}
use native.Mathlib.Omega.{arith}
use Rattle.index.specs.Message.{packed_half, packed_change, packed_changes, Carried}
use Rattle.index.specs.work.Edits.{Ready, Prepared, Step, Went}
use Rattle.index.specs.work.Edits.Went.{nothing}
use Rattle.index.proofs.laws.message.Running.{still_prepared, same_half, went_all, went_refused, went_same, went_more, went_back, went_none}
use Rattle.index.proofs.laws.Refusing.{some, refused_some, accepted_none, passed_on}
use Rattle.index.proofs.messages.run.run_both.Goals as goal

-- After the first change.
module _ (m n : ℕ) {b b₁ : List ℕ} (p : Prepared (m ∷ n ∷ []) b) {r : ℕ} (s : Step (packed_change m) b r b₁) where
  none : Went b (m ∷ n ∷ []) 0 b
  none = nothing

  first_refused : (r ≡ 0 → ⊥) → Carried b (packed_changes (m ∷ n ∷ [])) b (r, b₁)
  first_refused some = rw (went_none (went_same none s some) refl) (went_refused none (omega arith) s some)

  one_done : r ≡ 0 → Went b (m ∷ n ∷ []) 1 b₁
  one_done zero = went_more {cs = m ∷ n ∷ []} nothing (p 0 (omega arith)) s zero

  second_ready : Ready (packed_half n) b₁
  second_ready = still_prepared s (m ∷ n ∷ []) p 1 (omega arith)

pub change-requires : goal.change-requires
change-requires c = c.requires 0 (omega arith)

pub returns-in_err-change : goal.returns-in_err-change
returns-in_err-change c =
    let a = c.args in
    passed_on (λ k. Carried a.b.now (packed_changes (a.first ∷ a.second ∷ [])) a.b.now (k, c.change.new.b)) c.from_residual.result _ c.from_residual.ensures.1
    (first_refused a.first a.second c.requires c.in_err-change.ensures (some _))

pub change-last-requires : goal.change-last-requires
change-last-requires c = second_ready c.args.first c.args.second c.requires c.change.ensures

pub change-requires-then-is_err : goal.change-requires-then-is_err
change-requires-then-is_err c =
    let a = c.args in
    rw (same_half _ _ c.opposite.ensures.0)
    (still_prepared c.change-last.ensures (a.first ∷ a.second ∷ []) (still_prepared c.change.ensures (a.first ∷ a.second ∷ []) c.requires) 0 (omega arith))

pub returns-then-is_err : goal.returns-then-is_err
returns-then-is_err c =
    let a = c.args in
    let one = one_done a.first a.second c.requires c.in_ok-change.ensures refl in
    let refused = refused_some c.change-last.result (sym c.is_err.ensures.value ∙ c.if-is_err.true) in
    let back = went_back c.opposite.result (omega arith) c.opposite.ensures.0 c.opposite.ensures.1 c.change-then-is_err.ensures (went_same one c.change-last.ensures refused) in
    rw (went_none back refl) (went_refused one (omega arith) c.change-last.ensures refused)

pub returns-else-is_err : goal.returns-else-is_err
returns-else-is_err c =
    let a = c.args in
    let one = one_done a.first a.second c.requires c.in_ok-change.ensures refl in
    let zero = accepted_none c.change-last.result (sym c.is_err.ensures.value ∙ c.if-is_err.false) in
    rw zero (went_all (went_more one (second_ready a.first a.second c.requires c.change.ensures) c.change-last.ensures zero) refl)
