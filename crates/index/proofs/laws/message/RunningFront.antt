-- The changes at the front of a list by themselves, where only so many were done.
use Prim.Native.Nat.{ℕ, zero, suc, ◌≤◌}
use mathlib.Core.Path.{sym}
use mathlib.Core.List.{List}
use native.Mathlib.Omega.{arith}
use lib.ListN.{length, take}
use Rattle.std.proofs.lemmas.List.{get_or-take, length-take-le}
use Rattle.index.specs.work.Edits.{Went}
use Rattle.index.specs.work.Edits.Went.{nothing, next}

module _ (cs : List ℕ) (i : ℕ) (h : i ≤ length cs) where
  same : {b₀ b : List ℕ} (j : ℕ) → j ≤ i → Went b₀ cs j b → Went b₀ (take i cs) j b
  same zero l nothing = nothing
  same (suc j) l (next w q s) =
      let e = sym (get_or-take i cs j 0 (omega arith)) in
      next (same j (omega arith) w) (rw e at q) (rw e at s)

  pub went_front : {b₀ b : List ℕ} → Went b₀ cs i b → Went b₀ (take i cs) (length (take i cs)) b
  went_front w = rw (length-take-le i cs h) (same i (omega arith) w)
