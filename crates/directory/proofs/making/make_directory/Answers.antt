-- `making::make_directory` meets its contract: the tests in their order, and then the three parts.
use Prim.Native.Nat.{ℕ}
use mathlib.Core.Path.{◌≡◌, refl}
use mathlib.Core.List.{List}
use mathlib.Core.Logic.{inl, inr}
use native.Mathlib.Omega.{arith}
use Rattle.index.specs.Numbers.{Answers}
use Rattle.index.specs.Calls.{block_needs}
use Rattle.index.proofs.laws.Firsts.{All, passed, refused_first, passed_first}
use Rattle.index.proofs.laws.Refusing.{above, passed_on}
use Rattle.directory.specs.Directory.{Own}
use Rattle.directory.specs.By.{making_needs, MakesDirectory}
use Rattle.directory.proofs.making.make_directory.Goals as goal

abbrev Made : List ℕ → ℕ × List ℕ → Type 0
Made b o = (o.0 ≡ 0) × Own b o.1

-- The block is good.
fine : (b : List ℕ) → Answers (block_needs b) 0 → All (block_needs b)
unfolding block_needs
fine b a = passed (block_needs b) (omega arith) refl a

pub returns-in_err-tested : goal.returns-in_err-tested
unfolding MakesDirectory making_needs
returns-in_err-tested c =
    let b = c.args.block.now in
    let d = c.args.directory.now in
    passed_on (λ n. MakesDirectory b d (n, d)) c.from_residual.result _ c.from_residual.ensures.1
    (refused_first {O = ℕ × List ℕ} (λ n. (n, d)) (block_needs b) _ (Made b) _ (above _) c.in_err-tested.ensures)

pub returns-then-directory-ne-LENGTH : goal.returns-then-directory-ne-LENGTH
unfolding MakesDirectory making_needs
returns-then-directory-ne-LENGTH c =
    let b = c.args.block.now in
    let d = c.args.directory.now in
    passed_first {O = ℕ × List ℕ} (λ n. (n, d)) (block_needs b) _ (Made b) (13, d) (fine b c.in_ok-tested.ensures)
    (inl (c.if-directory-ne-LENGTH.true, refl))

pub fill-requires : goal.fill-requires
unfolding block_needs
fill-requires c = ((fine c.args.block.now c.in_ok-tested.ensures).1.0, c.if-directory-ne-LENGTH.false)

pub returns : goal.returns
unfolding MakesDirectory making_needs
returns c =
    let b = c.args.block.now in
    passed_first {O = ℕ × List ℕ} (λ n. (n, c.args.directory.now)) (block_needs b) _ (Made b) (0, c.fill.new.directory)
    (fine b c.in_ok-tested.ensures) (inr (c.if-directory-ne-LENGTH.false, (refl, c.fill.ensures)))
