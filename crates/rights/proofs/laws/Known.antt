-- What a source says of itself holds of it: its block is good, and a directory that is lent with it is the block's own.
use Rattle.std.proofs.Common.{ℕ, ◌-◌, ◌/◌, ◌<◌, ◌≡◌, List, subst, arith}
use Rattle.std.proofs.Math.Nat.{ℕ_set}
use Rattle.std.proofs.Math.Bridge.{le_prop}
use Rattle.std.proofs.Math.Logic.{∥∥₁_elim}
use Rattle.index.specs.declared.Kind.{Kind}
use Rattle.index.specs.declared.block.good.GoodBlock.{GoodBlock}
use Rattle.index.specs.Block.{header_length, record_length, place, Sized, Good}
use Rattle.index.proofs.laws.block.Known.{sized_known, good_known}
use Rattle.directory.specs.Directory.{part_length, entry, StartsAt, BeginsAt, Own}

module _ (b d : List ℕ) (t : ∥ Own b d ∥₁) where
  -- The record that begins where an entry says.
  number_of : Kind → ℕ → ℕ
  number_of kind x = (entry d kind x - header_length) / record_length

  at : Own b d → (kind : Kind) (x : ℕ) → x < part_length
      → StartsAt b kind x (number_of kind x) × (entry d kind x ≡ place (number_of kind x))
  unfolding BeginsAt number_of
  at own kind x l =
      let w = own.each kind x l in
      let e : w.0 ≡ (entry d kind x - header_length) / record_length = omega (arith, w.2) in
      subst (λ (i : ℕ). StartsAt b kind x i × (entry d kind x ≡ place i)) e (w.1, w.2)

  pub own_known : Own b d
  unfolding BeginsAt
  own_known = record {
    whole = ∥∥₁_elim t (hlevel ℕ_set) (λ own. own.whole);
    each = λ kind x l. (
      number_of kind x,
      record {
        low = ∥∥₁_elim t le_prop (λ own. (at own kind x l).0.low);
        high = ∥∥₁_elim t le_prop (λ own. (at own kind x l).0.high);
        below = λ j m h. ∥∥₁_elim t le_prop (λ own. (at own kind x l).0.below j m h);
        above = λ j m h. ∥∥₁_elim t le_prop (λ own. (at own kind x l).0.above j m h);
      },
      ∥∥₁_elim t (hlevel ℕ_set) (λ own. (at own kind x l).1),
    );
  }

pub is_good : (block : GoodBlock) → Good block.bytes.now
is_good block = good_known block.bytes.now block.good

pub is_sized : (block : GoodBlock) → Sized block.bytes.now
is_sized block = sized_known block.bytes.now block.sized
