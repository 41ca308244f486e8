-- The three kinds are different.
use mathlib.Core.Path.{◌≡◌, refl, ap}
use mathlib.Core.Logic.{◌⊎◌, inl, inr}
use native.Mathlib.Omega.{arith}
use Rattle.index.specs.declared.Kind.{Kind}
use Rattle.index.specs.declared.Kind.TheVariants.{Membership, Permission, Filter}
use Rattle.index.specs.Message.{kind_number}

pub apart : (K L : Kind) → (kind_number K ≡ kind_number L → ⊥) → K ≡ L → ⊥
apart K L h e = h (ap kind_number e)

pub kind? : (K L : Kind) → (K ≡ L) ⊎ (K ≡ L → ⊥)
unfolding kind_number
kind? Membership Membership = inl refl
kind? Membership Permission = inr (apart _ _ (λ e. omega arith))
kind? Membership Filter = inr (apart _ _ (λ e. omega arith))
kind? Permission Membership = inr (apart _ _ (λ e. omega arith))
kind? Permission Permission = inl refl
kind? Permission Filter = inr (apart _ _ (λ e. omega arith))
kind? Filter Membership = inr (apart _ _ (λ e. omega arith))
kind? Filter Permission = inr (apart _ _ (λ e. omega arith))
kind? Filter Filter = inl refl
