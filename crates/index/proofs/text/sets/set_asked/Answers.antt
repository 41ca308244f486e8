-- The tests of the block, then those of the kind and the key.
use Prim.Native.Nat.{ℕ}
use mathlib.Core.Path.{refl}
use mathlib.Core.List.{List, [], ◌∷◌}
use mathlib.Core.Logic.{inl, inr}
use native.Mathlib.Omega.{arith}
use Rattle.index.specs.Numbers.{Answers}
use Rattle.index.specs.Block.{IsName}
use Rattle.index.specs.Message.{IsKind, KindFrom}
use Rattle.index.specs.Calls.{block_needs, set_needs}
use Rattle.index.proofs.laws.Firsts.{answers_first}
use Rattle.index.proofs.laws.message.SentTests.{block_late}
use Rattle.index.proofs.laws.Refusing.{some, passed_on}
use Rattle.index.proofs.text.sets.set_asked.Goals as goal

pub returns-in_err-good-clause-number : goal.returns-in_err-good-clause-number
unfolding set_needs
returns-in_err-good-clause-number c =
    passed_on (Answers (set_needs c.args.block.now c.args.kind c.args.key)) c.from_residual.result _ c.from_residual.ensures.1
    (answers_first (block_needs c.args.block.now) _ (some _) c.in_err-good.ensures.number)

-- The tests of the block are passed.
passed : (b : List ℕ) (kind x r : ℕ) → Answers (block_needs b) 0 → Answers ((3, IsKind kind) ∷ (4, IsName x) ∷ []) r → Answers (set_needs b kind x) r
unfolding set_needs
passed b kind x r a f = block_late b _ r refl a f

pub returns-in_err-kind-clause-number : goal.returns-in_err-kind-clause-number
unfolding KindFrom
returns-in_err-kind-clause-number c =
    let k = c.in_err-kind.ensures in
    passed_on (Answers (set_needs c.args.block.now c.args.kind c.args.key)) c.from_residual-in_err-kind.result _ c.from_residual-in_err-kind.ensures.1
    (rw k.1 (passed _ _ _ 3 c.in_ok-good.ensures.number (inl (k.0, refl))))

pub returns-then-key-clause-number : goal.returns-then-key-clause-number
unfolding KindFrom
returns-then-key-clause-number c =
    passed _ _ _ 4 c.in_ok-good.ensures.number (inr (c.in_ok-kind.ensures.0, inl (λ k. omega (arith, k), refl)))

pub returns-clause-number : goal.returns-clause-number
unfolding KindFrom
returns-clause-number c = passed _ _ _ 0 c.in_ok-good.ensures.number (inr (c.in_ok-kind.ensures.0, inr (omega arith, refl)))

pub returns-clause-read : goal.returns-clause-read
unfolding KindFrom
returns-clause-read c = (c.in_ok-good.ensures.same, c.in_ok-kind.ensures.1, refl)
