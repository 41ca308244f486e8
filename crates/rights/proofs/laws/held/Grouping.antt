-- M-107: her groups, and the groups of an object, by the marks of two walks.
use Prim.Native.Nat.{ℕ, suc, ◌-◌, ◌<◌}
use mathlib.Core.Path.{◌≡◌, refl, sym, ◌∙◌}
use mathlib.Core.Bool.{Bool, true, not}
use mathlib.Core.List.{List}
use mathlib.Core.Logic.{◌↔◌, inl, inr, ⊎_elim}
use native.Mathlib.Omega.{arith}
use borrow.Author.Tests.{not-true}
use lib.ListN.{get_or, replicate, get_or-replicate}
use Rattle.index.specs.declared.Kind.TheVariants.{Membership}
use Rattle.index.specs.Letters.{all_rights, marker_x}
use Rattle.index.specs.Block.{name_count, Good}
use Rattle.index.specs.Calls.{CountsX}
use Rattle.rights.specs.declared.walk.Carry.TheVariants as carry
use Rattle.rights.specs.Chain.{Chain}
use Rattle.rights.specs.Groups.{WithoutN, Closes, Hers, Bound, InNoGroup, InHers, Open}
use Rattle.rights.specs.Groups.Hers.{ends}
use Rattle.rights.specs.work.Marks.{Side, Meets}
use Rattle.directory.proofs.Numbered.{has_record}
use Rattle.index.proofs.laws.block.Records.{count_at_lem, of_records}
use Rattle.index.proofs.laws.message.Halves.{differ}
use Rattle.rights.proofs.laws.ByNumber.{counted}
use Rattle.rights.proofs.laws.held.Members.{all_or_none, member_name}

-- Where no record counts X, nobody is bound.
nobody_bound : {b : List ℕ} (n u : ℕ) → Good b → (CountsX b → ⊥) → Bound n b u → ⊥
unfolding Bound Closes
nobody_bound n u g none (_, ends y c cl) =
    let w = counted g Membership marker_x cl.1 in
    none (w.0, w.1.of, has_record g (of_records Membership _ w.0 w.1.of), rw (← count_at_lem g Membership y _ w.0 marker_x w.1) cl.1)

-- A chain of at most n records to her group has at most n - 1 before the last, which closes it.
pub hers_ends : {b : List ℕ} {u h : ℕ} (n : ℕ) → (n ≡ 0 → ⊥) → Hers b u n h ↔ ((y : ℕ) × Chain (WithoutN b) (n - 1) u y × Closes b y h)
hers_ends ℕ.zero some = absurd (some refl)
hers_ends {b} {u} {h} (suc n) some = let e : suc n - 1 ≡ n = omega arith in rw e (to, (λ t. ends t.0 t.1 t.2))
  where
    to : Hers b u (suc n) h → (y : ℕ) × Chain (WithoutN b) n u y × Closes b y h
    to (ends y c cl) = (y, c, cl)

module _ (n : ℕ) {b : List ℕ} (g : Good b) (u : ℕ) (us : List ℕ) (users : Side b carry.WithoutN (n - 1) u us) (some : n ≡ 0 → ⊥) where
  chained : (y : ℕ) → (0 < get_or us y 0) ↔ Chain (WithoutN b) (n - 1) u y
  unfolding Side
  chained y = all_or_none (users y)

  -- A record that closes a chain to her group, and whose id is marked.
  met : (os : List ℕ) → Meets b us os ↔ ((h : ℕ) × Hers b u n h × (0 < get_or os h 0))
  unfolding Meets
  met os = (
    (λ m. (m.1, (hers_ends n some).1 (m.0, (chained m.0).0 m.3, m.2), m.4)),
    (λ w. let t = (hers_ends n some).0 w.1 in (t.0, w.0, t.2, (chained t.0).1 t.1, w.2)),
  )

  -- Where every name is marked, some record does so if she is bound.
  pub met_bound : Meets b us (replicate name_count all_rights) ↔ Bound n b u
  unfolding Bound Closes WithoutN
  met_bound = (
    (λ m. let w = (met (replicate name_count all_rights)).0 m in (w.0, w.1)),
    (λ w. (met (replicate name_count all_rights)).1 (w.0, w.1, named w.0 w.1)),
  )
    where
      named : (h : ℕ) → Hers b u n h → 0 < get_or (replicate name_count all_rights) h 0
      named h w = let t = (hers_ends n some).0 w in rw (get_or-replicate name_count h all_rights 0 (member_name g t.0 t.2.0.0)) (omega arith)

  -- Where the object's groups are marked, some does so if one of them is hers.
  pub met_hers : (o : ℕ) (os : List ℕ) → Side b carry.Member n o os → Meets b us os ↔ InHers n b u o
  unfolding InHers Side
  met_hers o os objects = (
    (λ m. let w = (met os).0 m in (w.0, w.1, (all_or_none (objects w.0)).0 w.2)),
    (λ w. (met os).1 (w.0, w.1, (all_or_none (objects w.0)).1 w.2)),
  )

-- ---- open

-- With chains of no records nobody is bound.
pub unbound : (n : ℕ) (b : List ℕ) (u : ℕ) → n ≡ 0 → Bound n b u → ⊥
unfolding Bound
unbound n b u none (_, ends y c cl) = omega (arith, none)

module _ (n : ℕ) (b : List ℕ) (u o : ℕ) where
  open_unbound : (Bound n b u → ⊥) → Open n b u o
  unfolding Open
  open_unbound none bound = absurd (none bound)

  pub open_free : Good b → (t : Bool) → (t ≡ true) ↔ CountsX b → not t ≡ true → Open n b u o
  open_free g t same e = open_unbound (nobody_bound n u g (λ x. differ (sym (same.1 x) ∙ not-true t e)))

  pub open_alone : InNoGroup b o → Open n b u o
  unfolding Open
  open_alone alone bound = inl alone

  -- For an object that is in a group.
  pub open_grouped : (InNoGroup b o → ⊥) → (Bound n b u → InHers n b u o) ↔ Open n b u o
  unfolding Open
  open_grouped some = (
    (λ f bound. inr (f bound)),
    (λ p bound. ⊎_elim (λ alone. absurd (some alone)) (λ h. h) (p bound)),
  )
