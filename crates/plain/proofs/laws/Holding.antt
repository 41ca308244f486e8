-- From what the records say to what is granted, let through, open and held.
use Prim.Native.Nat.{ℕ, ◌+◌, ◌-◌, ◌<◌, ◌≤◌}
use mathlib.Core.Path.{◌≡◌, sym, subst}
use mathlib.Core.List.{List}
use mathlib.Core.Logic.{◌⊎◌}
use native.Mathlib.Omega.{arith}
use Rattle.index.specs.declared.Kind.TheVariants.{Membership, Permission, Filter}
use Rattle.index.specs.Letters.{right_count}
use Rattle.index.specs.Block.{size, from, Of, key, id, Good, NetAt}
use Rattle.rights.specs.Chain.{Chain}
use Rattle.rights.specs.Groups.{Member, WithoutN, Closes, Hers, Open}
use Rattle.rights.specs.Groups.Hers.{ends}
use Rattle.rights.specs.Held.{Carries, Looked, Passes, Holds}
use Rattle.rights.proofs.laws.ByNumber.{at_self, is_where, is_at, net_at, net_where}
use Rattle.rights.proofs.laws.held.Grouping.{hers_ends}
use Rattle.rights.proofs.laws.held.Members.{member_where}
use Rattle.plain.specs.work.Steps.{Granted, NamesAt, HersAt}
use Rattle.plain.proofs.laws.Records.{closes_at}

-- With chains of no records she has no group.
hers_some : {b : List ℕ} {u n h : ℕ} → Hers b u n h → 0 < n
hers_some (ends y c cl) = omega arith

module _ {b : List ℕ} (g : Good b) where
  -- ---- the filters

  -- A group that the object's M records name is named by one of them.
  pub named_where : (o y : ℕ) → Member b o y → (i : ℕ) × (i < size b Membership) × NamesAt b o y i
  named_where o y m =
      let w = member_where g m in
      (w.0, omega (arith, w.1.of.1), (w.1.has_id, w.1.has_key, subst (Member b o) (sym w.1.has_id) m))

  pub names_member : (o y i : ℕ) → NamesAt b o y i → Member b o y
  names_member o y i n = subst (Member b o) n.0 n.2

  -- An F record that is looked at and lacks the right.
  pub lacks : (o k i : ℕ) → k < right_count → Of b Filter i → (NetAt b i k → ⊥) → Looked b o (key b i) → Passes b o k → ⊥
  unfolding Passes
  lacks o k i h of none looked passes =
      none ((net_at g Filter k h (at_self of)).1 (passes (key b i) looked (id b i) (is_at g Filter (at_self of))))

  -- Every one that is looked at has it.
  pub passes_all : (o k : ℕ) → k < right_count
      → ((i : ℕ) → from b Filter ≤ i → i < from b Filter + size b Filter → Looked b o (key b i) → NetAt b i k) → Passes b o k
  unfolding Passes
  passes_all o k h all x looked y is =
      let w = is_where g Filter is in
      (net_at g Filter k h w.1).0 (all w.0 w.1.of.0 w.1.of.1 (subst (Looked b o) (sym w.1.has_key) looked))

  -- ---- exclusive groups

  module _ (u n i : ℕ) (of : Of b Membership i) where
    pub makes_hers : HersAt b u n i → Hers b u n (id b i)
    makes_hers h = (hers_ends n (λ none. omega (arith, none, h.0))).1 (key b i, h.2, (closes_at g of).0 h.1)

  -- A group of hers is made so by an M record.
  pub hers_where : (u n h : ℕ) → Hers b u n h → (i : ℕ) × (i < size b Membership) × (id b i ≡ h) × HersAt b u n i
  unfolding Closes WithoutN
  hers_where u n h hers =
      let some = hers_some hers in
      let t = (hers_ends n (λ none. omega (arith, none, some))).0 hers in
      let w = member_where g t.2.0.0 in
      let at = w.1 in (
        w.0,
        omega (arith, at.of.1),
        at.has_id,
        (
          some,
          (closes_at g at.of).1 (rw (at.has_key, at.has_id) t.2),
          subst (Chain (WithoutN b) (n - 1) u) (sym at.has_key) t.1,
        ),
      )

  -- ---- held

  -- What some P record grants, the filters let through, on an object that is open.
  pub holds : (n u o k : ℕ) → k < right_count → Passes b o k → Granted b u o k n → Open n b u o → Holds n b u o k
  holds n u o k h passes granted opened =
      let t = granted.2 in
      record {
        s = id b granted.0;
        g = key b granted.0;
        reached = record { user_chain = t.1; object_chain = t.2 };
        grant = (net_at g Permission k h (at_self granted.1)).0 t.0;
        filters = passes;
        exclusive = opened;
      }

  pub held_granted : (n u o k : ℕ) → Holds n b u o k → Granted b u o k n
  held_granted n u o k h =
      let w = net_where g Permission k h.grant in
      let at = w.1 in (
        w.0,
        at.of,
        (
          w.2,
          subst (Chain (Carries b k) n u) (sym at.has_id) h.reached.user_chain,
          subst (λ (x : ℕ). Chain (Carries b k) n o x ⊎ (x ≡ 0)) (sym at.has_key) h.reached.object_chain,
        ),
      )
