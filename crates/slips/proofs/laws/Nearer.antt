-- The P record with the fewest steps to its two names.
use Prim.Native.Nat.{ℕ, ◌+◌, ◌≤◌, ◌<◌}
use mathlib.Core.List.{List}
use native.Mathlib.Omega.{arith}
use Rattle.std.specs.Prelude.{Some, None}
use Rattle.index.specs.declared.Kind.TheVariants.{Permission}
use Rattle.index.specs.Block.{from, size}
use Rattle.slips.specs.declared.finding.Best.{Best}
use Rattle.slips.specs.work.Trails.{far, Nearest, Granted}

-- All P records are before i.
module _ {b : List ℕ} {k : ℕ} {us os : List ℕ} {i : ℕ} {best : Best} (n : Nearest b k us os i best) (all : from b Permission + size b Permission ≤ i) where
  pub is_nearest : best.steps < far → Granted b k us os (Some best.at)
  unfolding Granted
  is_nearest l =
      let t = n.there l in
      (t.0, t.1, omega (arith, t.2), λ j of net. omega (arith, t.2, n.least j of.0 (omega (arith, of.1)) net))

  pub is_nowhere : far ≤ best.steps → Granted b k us os None
  unfolding Granted
  is_nowhere l j of net = omega (arith, n.least j of.0 (omega (arith, of.1)) net)
