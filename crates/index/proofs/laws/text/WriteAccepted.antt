-- A write whose requirements hold is accepted.
use Prim.Native.Nat.{ℕ, ◌≤◌}
use mathlib.Core.List.{List}
use lib.ListN.{length}
use Rattle.index.specs.Block.{IsName, Sized, Good}
use Rattle.index.specs.Message.{IsKind, kind_of}
use Rattle.index.specs.Text.{text_of, set_of}
use Rattle.index.specs.Calls.{block_needs, set_needs, write_needs, Written, WritesSet}
use Rattle.index.proofs.laws.Firsts.{first_sure}

pub write_accepted : (b : List ℕ) (kind x : ℕ) (out : List ℕ) (o : ℕ × ℕ × List ℕ) → Sized b → Good b → IsKind kind → IsName x
    → length (text_of (set_of b (kind_of kind) x)) ≤ length out → WritesSet b kind x out o → Written b kind x out o
unfolding WritesSet write_needs set_needs block_needs
write_accepted b kind x out o s g k n l =
    first_sure (λ n. (n, 0, out)) (Written b kind x out) o (write_needs b kind x out) (s, (g, (k, (n, (l, tt)))))
