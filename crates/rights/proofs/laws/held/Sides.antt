-- The two sides of a question, and what the P records grant and bar between them.
use Prim.Native.Nat.{ℕ, suc, ◌+◌, ◌<◌}
use mathlib.Core.Path.{◌≡◌, refl, subst}
use mathlib.Core.List.{List, [], ◌∷◌}
use mathlib.Core.Logic.{◌⊎◌, ◌↔◌, inl, inr, ⊎_elim}
use native.Mathlib.Omega.{arith}
use native.Mathlib.Decide.{ℕ_discrete}
use lib.ListN.{length, get_or, set, replicate, length-replicate}
use lib.Seq.{get_or-set_same, get_or-set_other}
use Rattle.index.specs.Letters.{right_count, all_rights, In, Mask}
use Rattle.index.specs.Block.{name_count, IsName}
use Rattle.index.proofs.laws.block.Masks.{in_zero, mask_map, mask_all}
use Rattle.rights.specs.declared.walk.Carry.{Carry}
use Rattle.rights.specs.declared.walk.Carry.TheVariants.{Rights}
use Rattle.rights.specs.Chain.{Chain}
use Rattle.rights.specs.Held.{Carries}
use Rattle.rights.specs.declared.Profile.{Profile}
use Rattle.rights.specs.work.Marks.{Marked, Walked, Side, Count}
use Rattle.rights.specs.work.Between.{Between, Led, GrantsIn, GrantedIn}
use Rattle.rights.specs.work.Fronts.{Front, Settled}
use Rattle.rights.proofs.laws.examined.AtMostFourTimes.{examined_few}
use Rattle.rights.proofs.laws.examined.Examining.{walked_examined}
use Rattle.rights.proofs.laws.walk.Fronts.{front_none, front_push}
use Rattle.rights.proofs.laws.walk.MarksAreChains.{blank, first, After, after_first, marks_are_chains}

-- ---- one side

-- Cleared marks.
abbrev clear : List ℕ
clear = replicate name_count 0

pub walked_side : {b : List ℕ} (carry : Carry) {n t : ℕ} {ms : List ℕ} (start : ℕ) → IsName start → Walked b carry n clear (first start) ms t
    → Side b carry n start ms
unfolding Side
walked_side {b} carry {n} {ms = ms} start h w =
    let e : 0 + n ≡ n = omega arith in
    subst (λ (m : ℕ). After b carry start (suc m) ms) e (marks_are_chains b carry start 0 (after_first b carry start h) w)

-- How many records it examines.
pub walked_count : {b : List ℕ} (carry : Carry) {n t : ℕ} {ms : List ℕ} (start : ℕ) → IsName start → Walked b carry n clear (first start) ms t
    → carry ≡ Rights → Count b n start t
walked_count {b} carry {n} {t} {ms} start h w e =
    let sum = walked_examined b start h (subst (λ (c : Carry). Walked b c n clear (first start) ms t) e w) in
    record { sum = sum; few = examined_few b start sum }

-- At the start one mark has grown, and the list has its name.
pub start_front : (start : ℕ) → IsName start → Front clear (first start) (start ∷ [])
start_front start h =
    let none = blank name_count start in
    front_push (front_none clear) start all_rights (omega (arith, length-replicate {A = ℕ} name_count 0)) (omega arith) refl (λ e. omega arith)

-- Cleared marks bring nothing.
pub start_settled : (b : List ℕ) (carry : Carry) (start : ℕ) → Settled b carry clear (first start)
unfolding Settled
start_settled b carry start k z h s = absurd (⊎_elim (λ m. unmarked z m) (λ t. unmarked t.0 t.1) s)
  where
    unmarked : (x : ℕ) → Marked clear k x → ⊥
    unmarked x m = in_zero k (rw (blank name_count x) at m)

-- ---- both

module _ (n : ℕ) (b us os : List ℕ) (u o : ℕ) (long : length os ≡ name_count) (users : Side b Rights n u us) (objects : Side b Rights n o os) where
  -- Name 0 counts in full for every object.
  with_zero : (z : ℕ) → Mask (get_or (set os 0 all_rights) z 0) (λ k. Chain (Carries b k) n o z ⊎ (z ≡ 0))
  unfolding Side
  with_zero z =
      elim (ℕ_discrete z 0) [
        | yes e ↦
            rw e
            (rw (get_or-set_same os 0 all_rights 0 (omega arith)) (mask_all (λ k. Chain (Carries b k) n o 0 ⊎ (◌≡◌ {A = ℕ} 0 0)) (λ k. inr refl)))
        | no ne ↦
            rw (get_or-set_other os 0 z all_rights 0 ne)
            (mask_map (objects z) (λ k. Chain (Carries b k) n o z ⊎ (z ≡ 0))
            (λ k h. ((λ c. inl c), (λ s. ⊎_elim (λ c. c) (λ e. absurd (ne e)) s))))
      ]

  between_led : (P : ℕ → ℕ → ℕ → Type 0) (k : ℕ) → k < right_count → Between us (set os 0 all_rights) P k ↔ Led n b u o P k
  unfolding Side Between Led
  between_led P k h = (
    (λ t. (
      t.1,
      t.0,
      record { user_chain = ((users t.1).1 k h).0 t.3; object_chain = ((with_zero t.0).1 k h).0 t.2 },
      t.4,
    )),
    (λ t. (
      t.1,
      t.0,
      ((with_zero t.1).1 k h).1 t.2.object_chain,
      ((users t.0).1 k h).1 t.2.user_chain,
      t.3,
    )),
  )

  -- What the search finds between them.
  pub reached : (p : Profile) {r : ℕ} (request : ℕ) → Mask r (λ k. GrantsIn p b us (set os 0 all_rights) k × In k request)
      → Mask r (λ k. GrantedIn p n b u o k × In k request)
  unfolding GrantsIn GrantedIn
  reached p request found =
      mask_map found _
      (λ k h. (
        (λ q. (((between_led _ k h).0 q.0.0, λ d. q.0.1 ((between_led _ k h).1 d)), q.1)),
        (λ q. (((between_led _ k h).1 q.0.0, λ d. q.0.1 ((between_led _ k h).0 d)), q.1)),
      ))
