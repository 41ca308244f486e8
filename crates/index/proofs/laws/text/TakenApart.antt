-- What was read, taken apart.
use Prim.Native.Nat.{ℕ}
use mathlib.Core.Path.{◌≡◌, refl}
use mathlib.Core.Bool.{Bool, true, false, cond, ◌&&◌}
use mathlib.Core.List.{List}
use mathlib.Core.Logic.{◌⊎◌, inl, inr}
use native.Mathlib.Omega.{arith}
use Rattle.index.specs.work.Reading.{Parsed, and_then}
use Rattle.index.specs.work.Reading.Parsed.{got, wrong}

pub not_got : {A : Type 0} {a : A} {r s : List ℕ} → ◌≡◌ {A = Parsed A} (wrong s) (got a r) → ⊥
not_got e = let z : ◌≡◌ {A = ℕ} 0 1 = cc in omega arith

pub and_inv : {A B : Type 0} (x : Parsed A) (f : A → List ℕ → Parsed B) {b : B} {r : List ℕ} → and_then x f ≡ got b r
    → (a : A) × (s : List ℕ) × (x ≡ got a s) × (f a s ≡ got b r)
and_inv (got a s) f e = (a, s, refl, e)
and_inv (wrong s) f e = absurd (not_got e)

pub guard_inv : {A : Type 0} (t : Bool) (x : Parsed A) (w : List ℕ) {b : A} {r : List ℕ} → cond t x (wrong w) ≡ got b r
    → (t ≡ true) × (x ≡ got b r)
guard_inv true x w e = (refl, e)
guard_inv false x w e = absurd (not_got e)

pub cond_inv : {A : Type 0} (t : Bool) (x y : A) {z : A} → cond t x y ≡ z → ((t ≡ true) × (x ≡ z)) ⊎ ((t ≡ false) × (y ≡ z))
cond_inv true x y e = inl (refl, e)
cond_inv false x y e = inr (refl, e)

pub and_true : (a b : Bool) → (a && b) ≡ true → (a ≡ true) × (b ≡ true)
and_true true b e = (refl, e)
and_true false b e = let z : ◌≡◌ {A = ℕ} 0 1 = cc in absurd (omega arith)
