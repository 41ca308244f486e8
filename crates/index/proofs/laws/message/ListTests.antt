-- The tests of a list of changes.
use Prim.Native.Nat.{ℕ}
use mathlib.Core.Path.{◌≡◌}
use mathlib.Core.List.{List, [], ◌∷◌}
use native.Mathlib.Omega.{arith}
use Rattle.index.specs.Block.{Sized}
use Rattle.index.specs.Numbers.{Answers, Each}
use Rattle.index.specs.Message.{Named, Masked, packed_half, PackedWell}
use Rattle.index.specs.Calls.{block_needs, list_needs}
use Rattle.index.specs.work.Edits.{Prepared}
use Rattle.index.proofs.laws.Firsts.{All, passed}
use Rattle.index.proofs.laws.message.Packing.{each_at}

-- Those of the list by itself.
abbrev pub own_needs : List ℕ → List (ℕ × Type 0)
own_needs cs =
    (3, Each PackedWell cs) ∷ (4, Each (λ n. Named (packed_half n)) cs) ∷ (5, Each (λ n. Masked (packed_half n)) cs) ∷ []

module _ (b cs : List ℕ) {r : ℕ} (e : r ≡ 0) (a : Answers (list_needs b cs) r) where
  pub list_passed : All (list_needs b cs)
  unfolding list_needs block_needs
  list_passed = passed (list_needs b cs) (omega arith) e a

  pub list_prepared : Prepared cs b
  unfolding list_needs block_needs Sized Named
  list_prepared i l =
      let p = list_passed in
      let named = each_at (λ n. Named (packed_half n)) cs p.1.1.1.0 i l in
      record {
        short = p.0.1;
        good = p.1.0;
        key_below = named.0;
        id_below = named.1;
        masked = each_at (λ n. Masked (packed_half n)) cs p.1.1.1.1.0 i l;
      }
