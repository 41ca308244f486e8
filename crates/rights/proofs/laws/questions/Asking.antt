-- From the rights reached, the filters and the request to the rights held.
use Prim.Native.Nat.{ℕ, ◌^◌, ◌<◌, ◌≤◌}
use mathlib.Core.Path.{◌≡◌}
use mathlib.Core.List.{List}
use mathlib.Core.Logic.{◌↔◌, ⊎_elim}
use native.Mathlib.Omega.{arith}
use Rattle.index.specs.declared.Kind.TheVariants.{Permission}
use Rattle.index.specs.Letters.{right_count, In, Mask}
use Rattle.index.proofs.laws.block.Masks.{mask_map, mask_covers}
use Rattle.index.proofs.laws.Range.{lt_or_le}
use Rattle.index.proofs.laws.block.MayHave.{some_letter, no_letter}
use Rattle.rights.specs.Groups.{Open}
use Rattle.rights.specs.declared.Profile.{Profile}
use Rattle.rights.specs.declared.Profile.TheVariants.{Ordinary, Strict}
use Rattle.rights.specs.Held.{Net, chain_limit, Passes, Holds}
use Rattle.rights.specs.Profiles.{Denies, Barred, HoldsIn}
use Rattle.rights.specs.work.Between.{Led, GrantedIn}
use Rattle.rights.specs.Questions.{Limited, HoldsAll}

-- A right is held as before where it is reached and passes the filters, on an object that is open to the user,
pub before : (n : ℕ) (b : List ℕ) (u o k : ℕ) → (Led n b u o (Net b Permission) k × Passes b o k × Open n b u o) ↔ Holds n b u o k
unfolding Led
before n b u o k = (
  (λ p. record { s = p.0.0; g = p.0.1; reached = p.0.2; grant = p.0.3; filters = p.1; exclusive = p.2 }),
  (λ h. ((h.s, h.g, h.reached, h.grant), h.filters, h.exclusive)),
)

-- and in a profile where it is besides not barred.
pub barred : (n : ℕ) (b : List ℕ) (u o k : ℕ) → Led n b u o (Denies b) k ↔ Barred n b u o k
unfolding Led
barred n b u o k = (
  (λ t. record { s = t.0; g = t.1; denial = t.3; reached = t.2 }),
  (λ h. (h.s, h.g, h.reached, h.denial)),
)

pub holds : (p : Profile) (n : ℕ) (b : List ℕ) (u o k : ℕ) → (GrantedIn p n b u o k × Passes b o k × Open n b u o) ↔ HoldsIn p n b u o k
unfolding GrantedIn HoldsIn Led
holds Ordinary n b u o k = (
  (λ q. (before n b u o k).0 (q.0.0, q.1, q.2)),
  (λ h. let q = (before n b u o k).1 h in ((q.0, λ t. t.3), q.1, q.2)),
)
holds Strict n b u o k = (
  (λ q. ((before n b u o k).0 (q.0.0, q.1, q.2), λ d. q.0.1 ((barred n b u o k).1 d))),
  (λ h. let q = (before n b u o k).1 h.0 in ((q.0, λ t. h.1 ((barred n b u o k).0 t)), q.1, q.2)),
)

-- In either profile it is held as before.
pub held_before : (p : Profile) (n : ℕ) (b : List ℕ) (u o k : ℕ) → HoldsIn p n b u o k → Holds n b u o k
unfolding HoldsIn
held_before Ordinary n b u o k h = h
held_before Strict n b u o k h = h.0

module _ (p : Profile) (n : ℕ) (b : List ℕ) (u o request : ℕ) where
  -- The rights reached among those that the filters let through, limited to the request, on an object that is open.
  pub limited : {w r v : ℕ} → Mask w (λ k. Passes b o k × In k request) → Mask r (λ k. GrantedIn p n b u o k × In k w)
      → Mask v (λ k. Open n b u o × In k r) → Limited p n b u o request v
  unfolding Limited
  limited wanted reached opened =
      mask_map opened (λ k. HoldsIn p n b u o k × In k request)
      (λ k h. (
        (λ a.
            let q = (reached.1 k h).0 a.1 in
            let w = (wanted.1 k h).0 q.1 in
            ((holds p n b u o k).0 (q.0, w.0, a.0), w.1)),
        (λ a.
            let q = (holds p n b u o k).1 a.0 in
            (q.2, (reached.1 k h).1 (q.0, (wanted.1 k h).1 (q.1, a.1)))),
      ))

-- Every requested right passes the filters, is reached, and the object is open.
module _ (p : Profile) (b : List ℕ) (u o request : ℕ) (small : request < 2 ^ right_count) where
  pub filtered : {w : ℕ} → Mask w (λ k. Passes b o k × In k request) → HoldsAll p b u o request → w ≡ request
  unfolding HoldsAll
  filtered wanted all = (mask_covers request small wanted).1 (λ k h i. ((holds p chain_limit b u o k).1 (all k h i)).1)

  pub granted_all : {r : ℕ} → Mask r (λ k. GrantedIn p chain_limit b u o k × In k request) → HoldsAll p b u o request → r ≡ request
  unfolding HoldsAll
  granted_all reached all = (mask_covers request small reached).1 (λ k h i. ((holds p chain_limit b u o k).1 (all k h i)).0)

  pub held_all : {w r : ℕ} → Mask w (λ k. Passes b o k × In k request) → w ≡ request → Mask r (λ k. GrantedIn p chain_limit b u o k × In k request)
      → r ≡ request → Open chain_limit b u o → HoldsAll p b u o request
  unfolding HoldsAll
  held_all wanted same reached e opened k h i =
      (holds p chain_limit b u o k).0 ((mask_covers request small reached).0 e k h i, (mask_covers request small wanted).0 same k h i, opened)

  -- A request has a right, so that the object is open where all are held.
  pub open_all : 1 ≤ request → HoldsAll p b u o request → Open chain_limit b u o
  unfolding HoldsAll
  open_all some all =
      let (k, i) = some_letter request some in
      ⊎_elim (λ (h : k < right_count). (held_before p chain_limit b u o k (all k h i)).exclusive)
      (λ h. absurd (omega (arith, i, no_letter request right_count k small h))) (lt_or_le k right_count)
