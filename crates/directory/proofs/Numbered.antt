-- Records of a good block by their numbers: the doors give their keys and ids, and the keys rise.
use Prim.Native.Nat.{ℕ, ◌+◌, ◌/◌, ◌%◌, ◌^◌, ◌<◌, ◌≤◌}
use mathlib.Core.Path.{◌≡◌}
use mathlib.Core.List.{List}
use native.Mathlib.Omega.{arith}
use Rattle.index.specs.declared.Kind.{Kind}
use Rattle.index.specs.Block.{IsName, records, from, size, Of, place, key, id, Good, Has}
use Rattle.index.specs.Calls.{PairOf}
use Rattle.index.proofs.laws.block.Bytes.{number_small}
use Rattle.index.proofs.laws.block.Records.{gap_in, of_records, no_lower}

-- The end of the parts is a 16-bit number.
pub few : {b : List ℕ} → Good b → place (records b) < 2 ^ 16
few {b} g = omega (arith, g.end_offset, number_small b 14 g.bytes)

-- A good block has all of its records.
pub has_record : {b : List ℕ} → Good b → {i : ℕ} → i < records b → Has b i
has_record g l = omega (arith, g.fits)

-- Key and id of a record, as the door gives them.
module _ {b : List ℕ} (g : Good b) {i r : ℕ} (l : i < records b) (told : PairOf b i r) where
  pub pair_key : r % 65536 ≡ key b i
  pair_key = omega (arith, told.whole (has_record g l), number_small b (place i) g.bytes)

  pub pair_id : r / 65536 ≡ id b i
  pair_id = omega (arith, told.whole (has_record g l), number_small b (place i) g.bytes)

module _ {b : List ℕ} (g : Good b) (kind : Kind) where
  pub key_name : {i : ℕ} → Of b kind i → IsName (key b i)
  key_name {i} of = g.keys i (of_records kind b i of)

  pub id_name : {i : ℕ} → Of b kind i → IsName (id b i)
  id_name {i} of = g.ids i (of_records kind b i of)

  pub keys_rise : (i j : ℕ) → i ≤ j → Of b kind i → Of b kind j → key b i ≤ key b j
  keys_rise i j l of of' = omega (arith, no_lower b g kind i j l of of', id_name of')

  -- So is the place of each record of a part, and the end of the part.
  pub place_few : (i : ℕ) → i ≤ from b kind + size b kind → place i < 2 ^ 16
  place_few i l = omega (arith, few g, gap_in kind b i l)
