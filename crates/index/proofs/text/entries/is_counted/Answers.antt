-- Some letter is counted where the total is above zero.
use Prim.Native.Nat.{ℕ, zero, suc, ◌+◌}
use mathlib.Core.Path.{◌≡◌, refl, ◌∙◌}
use mathlib.Core.List.{List, [], ◌∷◌}
use native.Mathlib.Omega.{arith}
use lib.Dec.{ltb}
use borrow.Author.Rules.{rules}
use borrow.Author.Tests.{tests, lt-ltb}
use native.Mathlib.Nat.{zero-add}
use Rattle.std.specs.List.{list_any}
use Rattle.std.proofs.lemmas.Iterator.{YieldsList-from_slice}
use Rattle.std.proofs.lemmas.Iterator.Search.{any_from_yields_List}
use Rattle.index.specs.work.Reading.{total}
use Rattle.index.proofs.text.entries.is_counted.Goals as goal

some_count : (cs : List ℕ) → list_any (ltb 0) cs ≡ ltb 0 (total cs)
some_count [] = refl
some_count (zero ∷ cs) = rw zero-add (some_count cs)
some_count (suc c ∷ cs) = simp (lt-ltb 0 (suc c) (omega arith), lt-ltb 0 (suc c + total cs) (omega arith))

pub returns : goal.returns
returns c =
    let cs = c.args.counts.now in
    any_from_yields_List (ltb 0) _ _ _ c.any.ensures.ran (YieldsList-from_slice cs cc) (λ x b q k. search (rules, tests)) ∙ some_count cs
