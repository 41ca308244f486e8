-- Some count has something left.
use Prim.Native.Nat.{ℕ, ◌<◌, ◌≤◌}
use mathlib.Core.Path.{refl, subst, ◌∙◌}
use mathlib.Core.Bool.{Bool, true, false}
use native.Mathlib.Nat.{zero-add}
use native.Mathlib.Omega.{arith}
use lib.ListN.{length}
use borrow.Author.Rules.{rules}
use borrow.Author.Tests.{tests}
use Rattle.std.specs.Bool.{MatchBool}
use Rattle.std.specs.List.{HoldsAt, AllWithin, range_with_len}
use Rattle.std.proofs.lemmas.List.FromFn.{length-range_with_len, get_or-range_with_len}
use Rattle.std.proofs.lemmas.Iterator.{cases_from_any, YieldsList-from_range}
use Rattle.index.specs.Letters.{letter_count}
use Rattle.index.specs.Block.{count_at}
use Rattle.index.specs.work.Checks.{Says}
use Rattle.index.specs.work.Edits.{bit}
use Rattle.index.proofs.block.record.Record.left_over.Goals as goal

-- What `any` tells of the first n numbers.
any_below : (P Q : ℕ → Type 0) (n : ℕ) → ((k : ℕ) → Q k → P k → ⊥) → (r : Bool)
    → MatchBool r ((k : ℕ) × (k < length (range_with_len 0 n)) × HoldsAt P (range_with_len 0 n) k)
    (AllWithin Q (range_with_len 0 n) 0 (length (range_with_len 0 n))) → Says ((k : ℕ) × (k < n) × P k) r
any_below P Q n not true (k, l, h) =
    let below : k < n = omega (arith, l, length-range_with_len 0 n) in
    (k, below, subst P (get_or-range_with_len 0 n k 0 below ∙ zero-add k) (h 0))
any_below P Q n not false h =
    λ w. not w.0 (subst Q (get_or-range_with_len 0 n w.0 0 w.1 ∙ zero-add w.0) (h w.0 0 (omega arith) (omega (arith, w.1, length-range_with_len 0 n)))) w.2

pub returns : goal.returns
returns c =
    let b = c.args.self.block.now in
    let count : ℕ → ℕ = count_at b c.args.self.i in
    let less : ℕ → ℕ = bit c.args.mask in
    any_below (λ k. less k < count k) (λ k. count k ≤ less k) letter_count (λ k l h. omega arith) c.any.result
    (cases_from_any _ _ _ (λ k. less k < count k) (λ k. count k ≤ less k) c.any.ensures.ran (YieldsList-from_range 0 letter_count letter_count refl refl)
    (λ k q h. search (rules, tests)) (λ k q h. search (rules, tests)))
