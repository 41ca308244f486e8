-- Where the M records of names start, looked up name by name.
use Prim.Native.Nat.{ℕ, ◌+◌, ◌<◌}
use mathlib.Core.Path.{◌≡◌, refl, subst, ◌∙◌}
use mathlib.Core.List.{List}
use mathlib.Core.Logic.{inl, inr, ⊎_elim}
use native.Mathlib.Omega.{arith}
use native.Mathlib.Nat.{eq-or-lt_of_le}
use native.Mathlib.Decide.{ℕ_discrete}
use lib.ListN.{length, get_or, set, length-set, replicate, get_or-replicate, length-replicate}
use lib.Seq.{get_or-set_same, get_or-set_other}
use Rattle.index.specs.declared.Kind.TheVariants.{Membership}
use Rattle.index.specs.Block.{name_count, IsName}
use Rattle.directory.specs.Directory.{StartsAt}
use Rattle.rights.specs.work.Fronts.{Named, Firsts, Turn}

-- No name has been looked up.
pub firsts_none : (b : List ℕ) → Firsts b (replicate name_count 65535)
firsts_none b = record {
  names = length-replicate {A = ℕ} name_count 65535;
  each = λ z h. inl (rw (get_or-replicate {A = ℕ} name_count z 65535 0 h) refl);
}

module _ {b names firsts : List ℕ} (named : Named names) (all : Firsts b firsts) where
  pub turn_of : (j : ℕ) → j < length names → StartsAt b Membership (get_or names j 0) (get_or firsts (get_or names j 0) 0) → Turn b names firsts j
  turn_of j l starts =
      record { inside = l; named = named.each j l; new = named.once j l; of_firsts = all.names; starts = starts }

  -- The first j names and name j.
  pub turns_more : (j : ℕ) → ((i : ℕ) → i < j → Turn b names firsts i) → Turn b names firsts j → (i : ℕ) → i < j + 1 → Turn b names firsts i
  turns_more j before here i l =
      ⊎_elim (λ e. subst (λ (k : ℕ). Turn b names firsts k) (omega arith) here) (λ h. before i h)
      (eq-or-lt_of_le {n = i} {m = j} (omega arith))

  -- The name x has been looked up.
  pub known : (x : ℕ) → IsName x → (get_or firsts x 0 ≡ 65535 → ⊥) → StartsAt b Membership x (get_or firsts x 0)
  known x h ne = ⊎_elim (λ e. absurd (ne (omega arith))) (λ s. s) (all.each x h)

  -- It is looked up now.
  module _ (x v : ℕ) (is_name : IsName x) (found : StartsAt b Membership x v) where
    still : (z : ℕ) → StartsAt b Membership z (get_or firsts z 0) → StartsAt b Membership z (get_or (set firsts x v) z 0)
    still z s =
        elim (ℕ_discrete z x) [
          | yes e ↦ rw (e, get_or-set_same firsts x v 0 (omega (arith, all.names))) found
          | no ne ↦ rw (get_or-set_other firsts x z v 0 ne) s
        ]

    pub now : StartsAt b Membership x (get_or (set firsts x v) x 0)
    now = rw (get_or-set_same firsts x v 0 (omega (arith, all.names))) found

    pub firsts_set : Firsts b (set firsts x v)
    firsts_set = record {
      names = length-set firsts x v ∙ all.names;
      each = λ z h. elim (ℕ_discrete z x) [
        | yes e ↦ rw e (inr now)
        | no ne ↦ rw (get_or-set_other firsts x z v 0 ne) (all.each z h)
      ];
    }

    pub turns_set : (j : ℕ) → ((i : ℕ) → i < j → Turn b names firsts i) → (i : ℕ) → i < j → Turn b names (set firsts x v) i
    turns_set j before i l =
        let t = before i l in
        record {
          inside = t.inside;
          named = t.named;
          new = t.new;
          of_firsts = length-set firsts x v ∙ all.names;
          starts = still (get_or names i 0) t.starts;
        }
