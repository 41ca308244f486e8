-- The list of the names that are reached.
use Prim.Native.Nat.{ℕ, ◌+◌, ◌<◌, ◌≤◌}
use mathlib.Core.Path.{◌≡◌, sym, ap, subst, ◌∙◌}
use mathlib.Core.List.{List}
use native.Mathlib.Omega.{arith}
use native.Mathlib.Decide.{ℕ_discrete}
use lib.ListN.{length, get_or, set, length-set}
use lib.Seq.{get_or-set_same, get_or-set_other}
use Rattle.index.specs.Block.{name_count, IsName}
use Rattle.rights.specs.work.Fronts.{Among, Once}
use Rattle.rights.proofs.laws.Counting.{at_most, count_one}
use Rattle.rights.proofs.laws.walk.Fronts.{at_set, among_set, once_set, once_many}
use Rattle.slips.specs.work.Trails.{far, at, Listed, Within}

module _ (order : List ℕ) (len y : ℕ) where
  -- A name that is put behind the first len stands at no place before.
  pub within_set : (lo hi z : ℕ) → hi ≤ len → Within order lo hi z → Within (set order len y) lo hi z
  within_set lo hi z h w = (w.0, w.1, w.2, at_set order len y w.0 (omega (arith, w.2)) ∙ w.3)

  pub set_within : (lo hi z : ℕ) → hi ≤ len → Within (set order len y) lo hi z → Within order lo hi z
  set_within lo hi z h w = (w.0, w.1, w.2, sym (at_set order len y w.0 (omega (arith, w.2))) ∙ w.3)

  once_more : Once order len → (Among order len y → ⊥) → len < length order → Once (set order len y) (len + 1)
  once_more once none room j l a =
      elim (ℕ_discrete j len) [
        | yes e ↦
            let b = subst (λ (j : ℕ). Among (set order len y) j (get_or (set order len y) j 0)) e a in
            none ((among_set order len y len y (omega arith)).0 (rw (get_or-set_same order len y 0 room) at b))
        | no ne ↦ once_set order len y once j (omega (arith, ne)) a
      ]

module _ {steps order : List ℕ} {len : ℕ} (l : Listed steps order len) where
  -- A name that is not reached is not on it,
  off : {y : ℕ} → at steps y ≡ far → Among order len y → ⊥
  off e a = omega (arith, l.seen a.0 a.1, ap (at steps) a.2)

  pub few : len ≤ name_count
  few = at_most (once_many order len l.once l.each)

  module _ {y : ℕ} (name : IsName y) (unseen : at steps y ≡ far) where
    -- so there is a place for it.
    pub place : len < name_count
    place = at_most (count_one y (off unseen) name (once_many order len l.once l.each))

    -- It is reached, and put behind the others.
    pub listed_more : (v : ℕ) → v < far → Listed (set steps y v) (set order len y) (len + 1)
    listed_more v small =
        let room : len < length order = omega (arith, place, l.room) in
        let here = get_or-set_same order len y 0 room in
        record {
          names = length-set steps y v ∙ l.names;
          room = length-set order len y ∙ l.room;
          each = λ p h.
              elim (ℕ_discrete p len) [
                | yes e ↦ rw (e, here) name
                | no ne ↦ rw (at_set order len y p (omega (arith, ne))) (l.each p (omega (arith, ne)))
              ];
          seen = λ p h.
              elim (ℕ_discrete p len) [
                | yes e ↦ rw (e, here, get_or-set_same steps y v 0 (omega (arith, l.names, name))) small
                | no ne ↦
                    let before : p < len = omega (arith, ne) in
                    rw (at_set order len y p before, get_or-set_other steps y (get_or order p 0) v 0 (λ e. off unseen (p, before, e))) (l.seen p before)
              ];
          once = once_more order len y l.once (off unseen) room;
        }
