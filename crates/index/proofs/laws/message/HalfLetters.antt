-- The record that a half names, and its letters that go down or up.
use Prim.Native.Nat.{ℕ, ◌/◌, ◌%◌, ◌^◌}
use mathlib.Core.Path.{◌≡◌, refl, sym, ap, ◌∙◌}
use mathlib.Core.Bool.{Bool, true, false, cond, ◌&&◌}
use mathlib.Core.Logic.{◌⊎◌, inl, inr}
use native.Mathlib.Decide.{ℕ_discrete}
use borrow.Author.Tests.{eqb-true, eq-eqb}
use lib.Dec.{eqb}
use Rattle.index.specs.declared.Kind.{Kind}
use Rattle.index.specs.declared.Kind.TheVariants.{Membership, Permission, Filter}
use Rattle.index.specs.Letters.{may_have}
use Rattle.index.specs.Message.{kind_of, kind_number, Half, Masked, Change, moves, taken, added}
use Rattle.index.specs.Message.Change.{take, add}
use Rattle.index.specs.work.Edits.{bit}
use Rattle.index.proofs.laws.block.MayHave.{bit_zero, not_in}

-- ---- the record that a half names

abbrev pub Hits : Half → Kind → ℕ → ℕ → Type 0
Hits h kind x y = (h.kind ≡ kind) × (h.key ≡ x) × (h.id ≡ y)

pub numbered : (kind : Kind) → kind_of (kind_number kind) ≡ kind
unfolding kind_of kind_number
numbered Membership = refl
numbered Permission = refl
numbered Filter = refl

pub hits : (h : Half) (kind : Kind) (x y : ℕ) → Hits h kind x y ⊎ (Hits h kind x y → ⊥)
hits h kind x y =
    elim (ℕ_discrete (kind_number h.kind) (kind_number kind)) [
      | yes p ↦
          elim (ℕ_discrete h.key x) [
            | yes q ↦
                elim (ℕ_discrete h.id y) [
                  | yes r ↦ inl (sym (numbered h.kind) ∙ ap kind_of p ∙ numbered kind, q, r)
                  | no n ↦ inr (λ e. n e.2)
                ]
            | no n ↦ inr (λ e. n e.1)
          ]
      | no n ↦ inr (λ e. n (ap kind_number e.0))
    ]

moves_own : (h : Half) (k : ℕ) → moves h h.kind h.key h.id k ≡ bit h.mask k
unfolding moves
moves_own h k = simp (eq-eqb (kind_number h.kind) (kind_number h.kind) refl, eq-eqb h.key h.key refl, eq-eqb h.id h.id refl)

pub moves_none : (h : Half) (kind : Kind) (x y k : ℕ) → (Hits h kind x y → ⊥) → moves h kind x y k ≡ 0
unfolding moves
moves_none h kind x y k n = go (eqb (kind_number h.kind) (kind_number kind)) (eqb h.key x) (eqb h.id y) refl refl refl
  where
    go : (s t u : Bool) → eqb (kind_number h.kind) (kind_number kind) ≡ s → eqb h.key x ≡ t → eqb h.id y ≡ u
        → cond (s && (t && u)) (h.mask / 2 ^ k % 2) 0 ≡ 0
    go true true true p q r =
        absurd (n (sym (numbered h.kind) ∙ ap kind_of (eqb-true _ _ p) ∙ numbered kind, eqb-true _ _ q, eqb-true _ _ r))
    go true true false p q r = refl
    go true false u p q r = refl
    go false t u p q r = refl

-- The half of a change.
abbrev pub half_of : Change → Half
half_of (take h) = h
half_of (add h) = h

pub change_none : (c : Change) (kind : Kind) (x y k : ℕ) → (Hits (half_of c) kind x y → ⊥)
    → (taken c kind x y k ≡ 0) × (added c kind x y k ≡ 0)
unfolding taken added
change_none (take h) kind x y k n = (moves_none h kind x y k n, refl)
change_none (add h) kind x y k n = (refl, moves_none h kind x y k n)

-- The letters that go down in its record, and those that go up.
abbrev pub less_of : Change → ℕ
less_of (take h) = h.mask
less_of (add h) = 0

abbrev pub more_of : Change → ℕ
more_of (take h) = 0
more_of (add h) = h.mask

pub change_own : (c : Change) (k : ℕ)
    → (taken c (half_of c).kind (half_of c).key (half_of c).id k ≡ bit (less_of c) k)
    × (added c (half_of c).kind (half_of c).key (half_of c).id k ≡ bit (more_of c) k)
unfolding taken added
change_own (take h) k = (moves_own h k, sym (bit_zero k))
change_own (add h) k = (sym (bit_zero k), moves_own h k)

pub more_none : (c : Change) → Masked (half_of c) → (k : ℕ) → may_have (half_of c).kind k ≡ false → bit (more_of c) k ≡ 0
unfolding Masked
more_none (take h) m k l = bit_zero k
more_none (add h) m k l = not_in h.kind h.mask m.1 k l
