-- The records of a part by their numbers.
use Prim.Native.Nat.{ℕ, ◌+◌, ◌*◌, ◌<◌, ◌≤◌}
use mathlib.Core.Path.{◌≡◌}
use mathlib.Core.List.{List}
use native.Mathlib.Omega.{arith}
use Rattle.index.specs.declared.Kind.{Kind}
use Rattle.index.specs.Block.{records, Of, key, id, Good}
use Rattle.index.specs.Calls.{PairOf}
use Rattle.directory.specs.declared.Span.{Span}
use Rattle.directory.specs.Doors.{PartOf}
use Rattle.directory.proofs.Numbered.{pair_key, pair_id}

pub in_part : {b : List ℕ} (kind : Kind) {span : Span} {i : ℕ} → PartOf b kind span → span.from ≤ i → i < span.end → Of b kind i
in_part kind part l h = (omega (arith, part.first), omega (arith, part.last))

-- A record's pair is that of a key and an id just when they are its own.
module _ {b : List ℕ} (g : Good b) {i r : ℕ} (l : i < records b) (told : PairOf b i r) {x y : ℕ} where
  pub pair_names : x < 65536 → r ≡ x + 65536 * y → (key b i ≡ x) × (id b i ≡ y)
  pair_names small e = (omega (arith, pair_key g l told), omega (arith, pair_id g l told))
