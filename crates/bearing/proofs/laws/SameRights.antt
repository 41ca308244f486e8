-- M-113: blocks that agree have the same rights held, in each profile.
use Prim.Native.Nat.{ℕ, ◌+◌, ◌≤◌}
use mathlib.Core.Path.{◌≡◌, refl, sym, ◌∙◌}
use mathlib.Core.List.{List}
use mathlib.Core.Logic.{◌⊎◌, ◌↔◌, inl, inr, ⊎_elim}
use native.Mathlib.Omega.{arith}
use Rattle.index.specs.declared.Kind.TheVariants.{Permission, Filter}
use Rattle.index.specs.Letters.{right_count, marker_x, marker_n}
use Rattle.rights.specs.declared.Profile.{Profile}
use Rattle.rights.specs.declared.Profile.TheVariants.{Ordinary, Strict}
use Rattle.rights.specs.Chain.{Chain}
use Rattle.rights.specs.Chain.Chain.{here}
use Rattle.rights.specs.Groups.{Member, WithoutN, Closes, Hers, Bound, InNoGroup, InHers, Open}
use Rattle.rights.specs.Groups.Hers.{ends}
use Rattle.rights.specs.Held.{Is, Net, Carries, Looked, Passes, Reached, Holds}
use Rattle.rights.specs.Profiles.{Denies, Barred, HoldsIn}
use Rattle.rights.specs.Near.{Near}
use Rattle.rights.proofs.laws.walk.MarksAreChains.{up_to}
use Rattle.bearing.specs.Bearing.{Bears}
use Rattle.bearing.specs.EqualAnswers.{SameRecord, Agree}
use Rattle.bearing.proofs.laws.Agreeing.{goes_over, Start, same_members, member_on, member_back, near_on, bears_back, agree_back}

-- ---- the chains

module _ (b b' : List ℕ) (u o : ℕ) (agree : Agree b b' u o) where
  module _ (w : ℕ) (start : Start u o w) where
    carries_on : (k x y : ℕ) → Near 31 b w x → Carries b k x y → Carries b' k x y × Member b x y
    unfolding Carries Net Member
    carries_on k x y near (l, h, z) =
        let same = same_members b b' u o agree w start x y near in
        ((l, omega (arith, h, same k (omega arith)), sym (same (k + right_count) (omega arith)) ∙ z), (k, omega arith, h))

    -- A chain for a right is one in the other block too, and it leads to a name that is near.
    pub chain_on : (k n z : ℕ) → n ≤ 32 → Chain (Carries b k) n w z → Chain (Carries b' k) n w z × Near n b w z
    chain_on k n z = goes_over (Carries b k) (Member b) (Carries b' k) w (carries_on k) n z

  without_on : (x y : ℕ) → Near 31 b u x → WithoutN b x y → WithoutN b' x y × Member b x y
  unfolding WithoutN
  without_on x y near (m, z) =
      let same = same_members b b' u o agree u (inl refl) x y near in
      ((member_on b b' u o agree u (inl refl) x y near m, sym (same marker_n (omega arith)) ∙ z), m)

  -- ---- exclusive groups

  hers_on : (n g : ℕ) → n ≤ 32 → Hers b u n g → Hers b' u n g
  unfolding Closes
  hers_on n g h (ends y c (w, x)) =
      let (chain, to) = goes_over (WithoutN b) (Member b) (WithoutN b') u without_on _ y (omega arith) c in
      let near = up_to 31 (omega arith) to in
      let same = same_members b b' u o agree u (inl refl) y g near in
      ends y chain ((without_on y g near w).0, omega (arith, x, same marker_x (omega arith)))

module _ (b b' : List ℕ) (u o : ℕ) (agree : Agree b b' u o) where
  abbrev back : Agree b' b u o
  back = agree_back b b' u o agree

  in_no_group_on : InNoGroup b o → InNoGroup b' o
  unfolding InNoGroup
  in_no_group_on none y m = none y (member_back b b' u o agree o (inr refl) o y here m)

  open_on : Open 32 b u o → Open 32 b' u o
  unfolding Open Bound InHers
  open_on p (g, h) =
      ⊎_elim (λ none. inl (in_no_group_on none))
      (λ t.
      inr (
        t.0,
        hers_on b b' u o agree 32 t.0 (omega arith) t.1,
        near_on b b' u o agree o (inr refl) 32 t.0 (omega arith) t.2,
      ))
      (p (g, hers_on b' b u o back 32 g (omega arith) h))

  -- ---- the filters

  passes_on : (k : ℕ) → Passes b o k → Passes b' o k
  unfolding Passes Is Net Bears Agree
  passes_on k p x looked y (j, l, h) =
      let bears : Looked b o x = bears_back b b' u o agree Filter x y looked in
      let same = agree Filter x y bears in
      let n = p x bears y (j, l, omega (arith, h, same j l)) in
      (n.0, omega (arith, n.1, same k (omega (arith, n.0))), sym (same (k + right_count) (omega (arith, n.0))) ∙ n.2)

  -- ---- what is granted and barred

  reached_on : (k s g : ℕ) → Reached 32 b u o k s g → Reached 32 b' u o k s g × SameRecord b b' Permission g s
  unfolding Agree Bears
  reached_on k s g r =
      let (user, near) = chain_on b b' u o agree u (inl refl) k 32 s (omega arith) r.user_chain in
      let (object, counts) = side r.object_chain in
      (record { user_chain = user; object_chain = object }, agree Permission g s (counts, near))
    where
      side : Chain (Carries b k) 32 o g ⊎ (g ≡ 0) → (Chain (Carries b' k) 32 o g ⊎ (g ≡ 0)) × (Near 32 b o g ⊎ (g ≡ 0))
      side (inl c) = let (chain, near) = chain_on b b' u o agree o (inr refl) k 32 g (omega arith) c in (inl chain, inl near)
      side (inr e) = (inr e, inr e)

  holds_on : (k : ℕ) → Holds 32 b u o k → Holds 32 b' u o k
  unfolding Net
  holds_on k h =
      let (reached, same) = reached_on k h.s h.g h.reached in
      let (l, some, none) = h.grant in
      record {
        s = h.s;
        g = h.g;
        reached = reached;
        grant = (l, omega (arith, some, same k (omega arith)), sym (same (k + right_count) (omega arith)) ∙ none);
        filters = passes_on k h.filters;
        exclusive = open_on h.exclusive;
      }

  barred_on : (k : ℕ) → Barred 32 b u o k → Barred 32 b' u o k
  unfolding Denies
  barred_on k h =
      let (reached, same) = reached_on k h.s h.g h.reached in
      let (l, some) = h.denial in
      record { s = h.s; g = h.g; denial = (l, omega (arith, some, same (k + right_count) (omega arith))); reached = reached }

module _ (b b' : List ℕ) (u o : ℕ) (agree : Agree b b' u o) where
  held_on : (p : Profile) (k : ℕ) → HoldsIn p 32 b u o k → HoldsIn p 32 b' u o k
  unfolding HoldsIn
  held_on Ordinary k h = holds_on b b' u o agree k h
  held_on Strict k h =
      (holds_on b b' u o agree k h.0, λ bar. h.1 (barred_on b' b u o (agree_back b b' u o agree) k bar))

pub same_rights : (b b' : List ℕ) (u o : ℕ) (p : Profile) (k : ℕ) → Agree b b' u o → HoldsIn p 32 b u o k ↔ HoldsIn p 32 b' u o k
same_rights b b' u o p k agree = (held_on b b' u o agree p k, held_on b' b u o (agree_back b b' u o agree) p k)
