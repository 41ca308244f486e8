-- M-113: blocks that agree: a chain from the user or the object that is in one of them is in the other, so that the same records bear in both.
use Prim.Native.Nat.{ℕ, suc, ◌+◌, ◌≤◌}
use mathlib.Core.Path.{◌≡◌, refl, sym, subst}
use mathlib.Core.List.{List}
use mathlib.Core.Logic.{◌⊎◌, inl, inr}
use native.Mathlib.Omega.{arith}
use Rattle.index.specs.declared.Kind.{Kind}
use Rattle.index.specs.declared.Kind.TheVariants.{Membership, Permission, Filter}
use Rattle.rights.specs.Chain.{Chain}
use Rattle.rights.specs.Chain.Chain.{here, through}
use Rattle.rights.specs.Groups.{Member}
use Rattle.rights.specs.Held.{Looked}
use Rattle.rights.specs.Near.{Near}
use Rattle.rights.proofs.laws.walk.MarksAreChains.{up_to, on}
use Rattle.bearing.specs.Bearing.{Bears}
use Rattle.bearing.specs.EqualAnswers.{SameRecord, Agree, BearsInBoth, AgreeBack}

-- ---- a chain over other links

-- From x, to which j links M lead from the start, a chain of links L goes over to links N, if each link L from a name that at most t links M reach
-- does, and is a link M.
over : (L M N : ℕ → ℕ → Type 0) (start t j : ℕ) → ((x y : ℕ) → Chain M t start x → L x y → N x y × M x y) → {n x z : ℕ}
    → Chain M j start x → j + n ≤ suc t → Chain L n x z → Chain N n x z × Chain M (j + n) start z
over L M N start t j f near h (here {n = n}) = (here, up_to (j + n) (omega arith) near)
over L M N start t j f near h (through {n = n} {x = x} {z = z} y l c) =
    let (new, old) = f x y (up_to t (omega arith) near) l in
    let rest = over L M N start t (suc j) f (on near old) (omega arith) c in
    let e : suc j + n ≡ j + suc n = omega arith in
    (through y new rest.0, subst (λ (m : ℕ). Chain M m start z) e rest.1)

-- From the start itself, by at most 32 links.
pub goes_over : (L M N : ℕ → ℕ → Type 0) (start : ℕ) → ((x y : ℕ) → Chain M 31 start x → L x y → N x y × M x y) → (n z : ℕ) → n ≤ 32
    → Chain L n start z → Chain N n start z × Chain M n start z
goes_over L M N start f n z h c =
    let r = over L M N start 31 0 f here (omega arith) c in
    (r.0, up_to n (omega arith) r.1)

-- ---- two blocks

-- Chains start at the user or at the object.
abbrev pub Start : ℕ → ℕ → ℕ → Type 0
Start u o w = (w ≡ u) ⊎ (w ≡ o)

module _ (b b' : List ℕ) (u o : ℕ) (agree : Agree b b' u o) where
  module _ (w : ℕ) (start : Start u o w) where
    -- M records of names near a start are the same.
    pub same_members : (x y : ℕ) → Near 31 b w x → SameRecord b b' Membership x y
    unfolding Agree Bears
    same_members x y near = agree Membership x y (from start)
      where
        from : Start u o w → Near 31 b u x ⊎ Near 31 b o x
        from (inl e) = inl (subst (λ (v : ℕ). Near 31 b v x) e near)
        from (inr e) = inr (subst (λ (v : ℕ). Near 31 b v x) e near)

    pub member_back : (x y : ℕ) → Near 31 b w x → Member b' x y → Member b x y
    unfolding Member
    member_back x y near (k, l, h) = (k, l, omega (arith, h, same_members x y near k (omega arith)))

    pub near_back : (n z : ℕ) → n ≤ 32 → Near n b' w z → Near n b w z
    near_back n z h c =
        (goes_over (Member b') (Member b) (Member b) w (λ x y near m. let back = member_back x y near m in (back, back)) n z h c).0

  -- What bears in the second bears in the first.
  pub bears_back : (kind : Kind) (x y : ℕ) → Bears b' u o kind x y → Bears b u o kind x y
  unfolding Bears Looked
  bears_back Membership x y (inl c) = inl (near_back u (inl refl) 31 x (omega arith) c)
  bears_back Membership x y (inr c) = inr (near_back o (inr refl) 31 x (omega arith) c)
  bears_back Permission x y (inl c, d) = (inl (near_back o (inr refl) 32 x (omega arith) c), near_back u (inl refl) 32 y (omega arith) d)
  bears_back Permission x y (inr e, d) = (inr e, near_back u (inl refl) 32 y (omega arith) d)
  bears_back Filter x y (inl e) = inl e
  bears_back Filter x y (inr m) = inr (member_back o (inr refl) o x here m)

-- So they agree the other way round,
pub agree_back : AgreeBack
unfolding Agree
agree_back b b' u o agree kind x y h k l = sym (agree kind x y (bears_back b b' u o agree kind x y h) k l)

-- and what is said of the second is said of the first.
module _ (b b' : List ℕ) (u o : ℕ) (agree : Agree b b' u o) where
  abbrev other : Agree b' b u o
  other = agree_back b b' u o agree

  module _ (w : ℕ) (start : Start u o w) where
    pub near_on : (n z : ℕ) → n ≤ 32 → Near n b w z → Near n b' w z
    near_on = near_back b' b u o other w start

    pub member_on : (x y : ℕ) → Near 31 b w x → Member b x y → Member b' x y
    member_on x y near = member_back b' b u o other w start x y (near_on 31 x (omega arith) near)

-- In which of the two "reached" is meant does not matter.
pub bears_in_both : BearsInBoth
bears_in_both b b' u o agree kind x y = (bears_back b' b u o (agree_back b b' u o agree) kind x y, bears_back b b' u o agree kind x y)
