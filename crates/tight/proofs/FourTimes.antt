-- M-109: "each number at most four times the M records". No smaller whole number of times would do: on one block it is more than three.
use Prim.Native.Nat.{ℕ, ◌*◌, ◌≤◌}
use mathlib.Core.Path.{refl}
use mathlib.Core.List.{List}
use mathlib.Core.Logic.{inl}
use native.Mathlib.Omega.{arith}
use Rattle.index.specs.declared.Kind.TheVariants.{Membership}
use Rattle.index.specs.Block.{number, size}
use Rattle.rights.specs.Profiles.{ordinary, IsProfile}
use Rattle.rights.specs.Examined.{Examined, round_count}
use Rattle.rights.proofs.laws.questions.OneAnswer.{accepted_full}
use Rattle.tight.specs.Examples.{crowd}
use Rattle.tight.proofs.Starred.{examined_right}

pub not_three_times : ((b : List ℕ) (s t : ℕ) → Examined b s round_count t → t ≤ 3 * size b Membership) → ⊥
unfolding number IsProfile
not_three_times bound =
    omega (arith, bound crowd 1 40 (accepted_full crowd 1 11 15 ordinary 0 40 0 (examined_right.1.1.1.0 ordinary (inl refl))).1.2)
