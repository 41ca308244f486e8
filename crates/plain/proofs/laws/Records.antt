-- What an M record says, by its number and by its key and id.
use Prim.Native.Nat.{ℕ, suc, ◌<◌}
use mathlib.Core.Path.{◌≡◌, refl, sym, ◌∙◌}
use mathlib.Core.List.{List}
use mathlib.Core.Logic.{◌↔◌}
use native.Mathlib.Omega.{arith}
use Rattle.index.specs.declared.Kind.TheVariants.{Membership}
use Rattle.index.specs.Letters.{right_count, marker_x, marker_n}
use Rattle.index.specs.Block.{Of, key, id, Good, NetAt}
use Rattle.index.specs.work.Places.{At}
use Rattle.rights.specs.Groups.{Member, WithoutN, Closes}
use Rattle.rights.specs.Held.{Carries}
use Rattle.rights.proofs.laws.ByNumber.{at_self, net_at, net_where}
use Rattle.rights.proofs.laws.held.Members.{own_count_lem, member_where}
use Rattle.plain.specs.declared.reaching.Link.{Link}
use Rattle.plain.specs.declared.reaching.Link.TheVariants as link
use Rattle.plain.specs.work.Steps.{MemberAt, WithoutAt, ClosesAt, Linked}

-- A count that is not above zero is zero.
pub not_positive : (n : ℕ) → (0 < n → ⊥) → n ≡ 0
not_positive ℕ.zero none = refl
not_positive (suc n) none = absurd (none (omega arith))

module _ {b : List ℕ} (g : Good b) {i : ℕ} (of : Of b Membership i) where
  pub member_at : MemberAt b i ↔ Member b (key b i) (id b i)
  unfolding Member
  member_at = (
    (λ m. (m.0, m.1, omega (arith, m.2, own_count_lem g of m.0))),
    (λ m. (m.0, m.1, omega (arith, m.2, own_count_lem g of m.0))),
  )

  pub without_at : WithoutAt b i ↔ WithoutN b (key b i) (id b i)
  unfolding WithoutN
  without_at = (
    (λ m. (member_at.0 m.0, own_count_lem g of marker_n ∙ m.1)),
    (λ m. (member_at.1 m.0, sym (own_count_lem g of marker_n) ∙ m.1)),
  )

  pub closes_at : ClosesAt b i ↔ Closes b (key b i) (id b i)
  unfolding Closes
  closes_at = (
    (λ m. (without_at.0 m.0, omega (arith, m.1, own_count_lem g of marker_x))),
    (λ m. (without_at.1 m.0, omega (arith, m.1, own_count_lem g of marker_x))),
  )

  pub carries_at : (k : ℕ) → k < right_count → NetAt b i k ↔ Carries b k (key b i) (id b i)
  unfolding Carries
  carries_at k h = net_at g Membership k h (at_self of)

-- A link is an M record.
pub linked_where : {b : List ℕ} → Good b → (l : Link) (x y : ℕ) → Linked b l x y → (i : ℕ) × At b Membership x y i
unfolding Carries WithoutN
linked_where g (link.Right right) x y c = let w = net_where g Membership right.place c in (w.0, w.1)
linked_where g link.WithoutN x y c = member_where g c.0
linked_where g link.Member x y c = member_where g c
