-- M-111: the rights held to a limit. No second answer; the same whatever else is required, where it holds; and at 32 those of the full question.
use Prim.Native.Nat.{ℕ, ◌≤◌}
use mathlib.Core.Path.{◌≡◌, refl, sym, ap, ◌∙◌}
use mathlib.Core.List.{List, [], ◌∷◌, ◌++◌}
use mathlib.Core.Logic.{inl, ⊎_elim}
use native.Mathlib.Omega.{arith}
use Rattle.std.specs.Prelude.{Result}
use Rattle.index.specs.declared.refusals.Refusal.{Refusal}
use Rattle.index.specs.Numbers.{First}
use Rattle.index.specs.Calls.{block_needs}
use Rattle.index.proofs.laws.Firsts.{All, first_passed, with_last, without_last}
use Rattle.index.proofs.laws.OneFirst.{one_first}
use Rattle.index.proofs.laws.block.Masks.{mask_one}
use Rattle.rights.specs.declared.Profile.TheVariants.{Ordinary}
use Rattle.rights.specs.Held.{chain_limit}
use Rattle.rights.specs.HeldTo.{limit_needs, HeldWithin, HeldTo, AsksTo}
use Rattle.rights.specs.Profiles.{ordinary, IsProfile, profile_of}
use Rattle.rights.specs.Questions.{ask_needs, profile_needs, question_needs, Limited, Reports, unreported, Full}
use Rattle.rights.proofs.laws.questions.OneAnswer.{given_same}
use Rattle.rights.proofs.laws.questions.ShortAgrees.{first_both}

abbrev refusal : ℕ → ℕ × ℕ
refusal n = (n, 0)

module _ (b : List ℕ) (u o request limit : ℕ) where
  one_held : (a c : ℕ × ℕ) → HeldWithin limit b u o request a → HeldWithin limit b u o request c → a ≡ c
  unfolding Limited
  one_held a c p q =
      let n : a.0 ≡ c.0 = p.0 ∙ sym q.0 in
      let m : a.1 ≡ c.1 = mask_one p.1 q.1 in
      λ i. (n i, m i)

  -- A question with this limit, of any engine, that is refused with 14 unless Allowed.
  abbrev Asking : Type 0 → ℕ × ℕ → Type 0
  Asking Allowed a = First refusal (limit_needs b u o request Allowed) (HeldWithin limit b u o request) a

  pub one_within : (Allowed : Type 0) (a c : ℕ × ℕ) → Asking Allowed a → Asking Allowed c → a ≡ c
  one_within Allowed = one_first refusal (limit_needs b u o request Allowed) (HeldWithin limit b u o request) one_held

  -- Of two engines, where neither refuses with 14, what one gives is right of the other.
  pub as_other : {Allowed Allowed' : Type 0} → Allowed → Allowed' → (a : ℕ × ℕ) → Asking Allowed a → Asking Allowed' a
  unfolding limit_needs block_needs
  as_other {Allowed} {Allowed'} allowed allowed' a p =
      let ts = block_needs b ++ ask_needs u o request in
      with_last refusal ts ((14, Allowed') ∷ []) (HeldWithin limit b u o request) a (allowed', tt)
      (without_last refusal ts ((14, Allowed) ∷ []) (HeldWithin limit b u o request) a (allowed, tt) p)

  -- What an accepted answer says.
  pub accepted_within : (Allowed : Type 0) (mask : ℕ) → Asking Allowed (0, mask)
      → All (limit_needs b u o request Allowed) × Limited Ordinary limit b u o request mask
  unfolding limit_needs block_needs
  accepted_within Allowed mask h =
      let r = first_passed refusal (HeldWithin limit b u o request) (0, mask) (λ a. a.0) (λ n. refl) (limit_needs b u o request Allowed) (omega arith) refl h in
      (r.0, r.1.1)

  -- ---- the main walk

  pub one_held_to : (a c : ℕ × ℕ) → HeldTo b u o request limit a → HeldTo b u o request limit c → a ≡ c
  unfolding HeldTo
  one_held_to = one_within (limit ≤ chain_limit)

  pub one_asks_to : (r s : Result ℕ Refusal) → AsksTo b u o request limit r → AsksTo b u o request limit s → r ≡ s
  unfolding AsksTo
  one_asks_to = given_same (HeldTo b u o request limit) (HeldTo b u o request limit) one_held_to

-- "the rights of the full question", which is held to 32, in the ordinary profile: the same number and the same rights.
pub to_32 : (b : List ℕ) (u o request : ℕ) (a : ℕ × ℕ × ℕ × ℕ) (c : ℕ × ℕ) → Full b u o request ordinary a → HeldTo b u o request 32 c
    → (a.0 ≡ c.0) × (a.1 ≡ c.1)
unfolding Full HeldTo question_needs limit_needs block_needs IsProfile profile_of Limited
to_32 b u o request a c full held =
    let ts = block_needs b ++ ask_needs u o request in
    let p = without_last unreported ts (profile_needs ordinary) (Reports Ordinary b u o request) a (inl refl, tt) full in
    let q = without_last refusal ts ((14, 32 ≤ chain_limit) ∷ []) (HeldWithin 32 b u o request) c (omega arith, tt) held in
    ⊎_elim
    (λ r. (
      ap (λ (t : ℕ × ℕ × ℕ × ℕ). t.0) r.2 ∙ sym (ap (λ (t : ℕ × ℕ). t.0) r.3),
      ap (λ (t : ℕ × ℕ × ℕ × ℕ). t.1) r.2 ∙ sym (ap (λ (t : ℕ × ℕ). t.1) r.3),
    ))
    (λ r. (r.0.0 ∙ sym r.1.0, mask_one r.0.1 r.1.1))
    (first_both unreported refusal ts (Reports Ordinary b u o request) (HeldWithin 32 b u o request) a c (omega arith) p q)
