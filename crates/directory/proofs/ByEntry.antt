-- What the directory of a block says of its records.
use Prim.Native.Nat.{ℕ, ◌<◌}
use mathlib.Core.Path.{◌≡◌, subst}
use mathlib.Core.List.{List}
use native.Mathlib.Omega.{arith}
use Rattle.index.specs.declared.Kind.{Kind}
use Rattle.directory.specs.Directory.{part_length, entry, StartsAt, BeginsAt, Own}
use Rattle.directory.specs.Doors.{record_at}

-- The record that its entry for x tells is the first whose key is not below x.
pub by_entry : {b d : List ℕ} (kind : Kind) (x r : ℕ) → Own b d → x < part_length → r ≡ record_at (entry d kind x) → StartsAt b kind x r
unfolding BeginsAt
by_entry {b} kind x r own h e =
    let (i, starts, is) = own.each kind x h in
    let same : i ≡ r = omega arith in
    subst (λ (j : ℕ). StartsAt b kind x j) same starts
