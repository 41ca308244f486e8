-- A block that was cleared and given the header of no records is good.
use Prim.Native.Nat.{ℕ, ◌+◌, ◌<◌, ◌≤◌}
use mathlib.Core.Path.{◌≡◌, ◌∙◌}
use mathlib.Core.List.{List}
use mathlib.Core.Logic.{⊎_elim}
use native.Mathlib.Omega.{arith}
use lib.ListN.{length, get_or, get_or-eq_default}
use Rattle.index.specs.declared.Kind.{Kind}
use Rattle.index.specs.declared.Kind.TheVariants.{Membership, Permission, Filter}
use Rattle.index.specs.Block.{header_length, from, size, records, Good}
use Rattle.index.specs.work.Checks.{Zero}
use Rattle.index.specs.work.Edits.{Overwritten, Headed}
use Rattle.index.proofs.laws.block.Checked.{part_none, each_kind, good_of}
use Rattle.index.proofs.laws.Range.{lt_or_le}

module _
    {b b₁ b₂ : List ℕ}
    (l : header_length ≤ length b)
    (w : Overwritten header_length (length b) (λ u. 0) b b₁)
    (h : Headed 0 0 0 b₁ b₂) where
  none : (K : Kind) → size b₂ K ≡ 0
  none = each_kind (λ K. size b₂ K ≡ 0) (h.sizes Membership) (h.sizes Permission) (h.sizes Filter)

  pub empty_length : length b₂ ≡ length b
  empty_length = h.rest.same_length ∙ w.rest.same_length

  pub empty_records : records b₂ ≡ 0
  empty_records = omega (arith, none Membership, none Permission, none Filter)

  zeros : Zero b₂ header_length
  zeros t k =
      h.rest.above t k
      ∙ ⊎_elim (λ q. w.is t k q) (λ q. get_or-eq_default b₁ 0 {n = t} (omega (arith, w.rest.same_length)))
      (lt_or_le t (length b))

  pub empty_good : ((t : ℕ) → get_or b₂ t 0 < 256) → Good b₂
  empty_good bytes =
      good_of bytes (h.header (omega (arith, w.rest.same_length)))
      (λ K. part_none (from b₂ K + size b₂ K) (omega (arith, none K)))
      (λ t k. zeros t (omega (arith, empty_records)))
