-- A test of the full answer that computes, in both profiles, on one object or on all: all four rights are requested.
use Prim.Native.Nat.{ℕ, ◌/◌, ◌%◌, ◌^◌, ◌<◌}
use mathlib.Core.Path.{◌≡◌, refl, sym, subst, ◌∙◌}
use mathlib.Core.Bool.{Bool, true, false, not, ◌&&◌}
use mathlib.Core.List.{List}
use mathlib.Core.Logic.{◌↔◌, inl, inr, ⊎_elim}
use native.Mathlib.Omega.{arith}
use borrow.Author.Tests.{eqb-true, eq-eqb, ltb-true}
use lib.Dec.{eqb, ltb}
use Rattle.index.specs.Letters.{right_count, all_rights, In}
use Rattle.index.specs.Block.{name_count, IsName, Sized, Good}
use Rattle.index.specs.Calls.{block_needs}
use Rattle.index.proofs.laws.Firsts.{first_all}
use Rattle.index.proofs.laws.block.Masks.{in_all}
use Rattle.index.proofs.laws.Tests.{both, all, all_at}
use Rattle.index.proofs.laws.message.Halves.{differ}
use Rattle.rights.specs.declared.Profile.{Profile}
use Rattle.rights.specs.declared.Profile.TheVariants.{Ordinary, Strict}
use Rattle.rights.specs.Held.{chain_limit}
use Rattle.rights.specs.Profiles.{HoldsIn, ordinary, strict, IsProfile, profile_of}
use Rattle.rights.specs.Questions.{question_needs, Limited, Reports, unreported, Full}
use Rattle.rights.proofs.laws.tests.ExaminedTest.{examined_test, examined_test_lem}
use Rattle.rights.proofs.laws.tests.ChainTest.{and_true, not_test}
use Rattle.rights.proofs.laws.tests.HoldsTest.{holds_test, holds_test_lem, barred_test, barred_test_lem}
use Rattle.tight.specs.Examples.{InEach}
use Rattle.tight.proofs.BlockTest.{block_test, block_test_lem}
use Rattle.tight.proofs.MaskTest.{same, same_true}

-- A right that is in the one mask or not, and in the other or not: as it is held before, and as it is barred, which is looked at only then.
abbrev agree : Bool → Bool → Bool → Bool → Bool
agree m s true barred = m && same s (not barred)
agree m s false barred = not m && not s

agree_right : (m s held barred : Bool) → agree m s held barred ≡ true → (m ≡ held) × (s ≡ held && not barred)
agree_right m s true barred e = let p = both m (same s (not barred)) e in (p.0, same_true s (not barred) p.1)
agree_right true s false barred e = absurd (differ (sym e))
agree_right false true false barred e = absurd (differ (sym e))
agree_right false false false barred e = (refl, refl)

module _ (b : List ℕ) (u : ℕ) where
  -- Held as before M-112, and barred, by the chains of the full question.
  abbrev holding : ℕ → ℕ → Bool
  holding o k = holds_test chain_limit b u o k

  abbrev barring : ℕ → ℕ → Bool
  barring o k = barred_test chain_limit b u o k

  -- Right k is in the first mask exactly where the user holds it on the object o in the ordinary profile, and in the second in the strict one.
  abbrev right_test : ℕ → ℕ → ℕ → ℕ → Bool
  right_test mask in_strict o k =
      agree (eqb (mask / 2 ^ k % 2) 1) (eqb (in_strict / 2 ^ k % 2) 1) (holding o k) (barring o k)

  abbrev object_test : ℕ → ℕ → ℕ → Bool
  object_test mask in_strict o = all (right_test mask in_strict o) 0 right_count

  -- What is tested whatever the object.
  abbrev user_test : ℕ → ℕ → Bool
  user_test mask in_strict = block_test b && (ltb u name_count && (ltb mask (2 ^ right_count) && ltb in_strict (2 ^ right_count)))

  abbrev pub rights_test : ℕ → ℕ → ℕ → Bool
  rights_test mask in_strict o = user_test mask in_strict && (ltb o name_count && object_test mask in_strict o)

  abbrev pub everywhere_test : ℕ → ℕ → Bool
  everywhere_test mask in_strict = user_test mask in_strict && all (object_test mask in_strict) 0 name_count

  -- The mask has just the rights that are held in the profile.
  abbrev Told : Profile → ℕ → ℕ → Type 0
  Told p mask o = (k : ℕ) → k < right_count → In k mask ↔ (HoldsIn p chain_limit b u o k × In k all_rights)

  object_test_lem : Good b → (mask in_strict o : ℕ) → object_test mask in_strict o ≡ true → Told Ordinary mask o × Told Strict in_strict o
  unfolding HoldsIn
  object_test_lem g mask in_strict o e = (
    (λ k l.
        let s = (right k l).0 in
        let held = holds_test_lem g chain_limit u o k in
        ((λ i. (held.0 (sym s ∙ eq-eqb _ _ i), in_all k l)), (λ h. eqb-true _ _ (s ∙ held.1 h.0)))),
    (λ k l.
        let s = (right k l).1 in
        let held = holds_test_lem g chain_limit u o k in
        let barred = not_test (barring o k) (barred_test_lem g chain_limit u o k l) in (
          (λ i.
              let p = both (holding o k) _ (sym s ∙ eq-eqb _ _ i) in
              ((held.0 p.0, barred.0 p.1), in_all k l)),
          (λ h. eqb-true _ _ (s ∙ and_true (held.1 h.0.0) (barred.1 h.0.1))),
        )),
  )
    where
      right : (k : ℕ) → k < right_count
          → (eqb (mask / 2 ^ k % 2) 1 ≡ holding o k) × (eqb (in_strict / 2 ^ k % 2) 1 ≡ holding o k && not (barring o k))
      right k l =
          agree_right _ _ _ (barring o k) (all_at (right_test mask in_strict o) 0 right_count e k (omega arith) (omega arith))

  -- The rights in the profile of this number.
  full : (p mask : ℕ) → IsProfile p → Sized b × Good b → IsName u → mask < 2 ^ right_count → (o : ℕ) → IsName o
      → Told (profile_of p) mask o → Full b u o all_rights p (0, mask, examined_test b u, examined_test b o)
  unfolding Full question_needs block_needs Limited
  full p mask is t nu small o named h =
      first_all unreported (Reports (profile_of p) b u o all_rights) (0, mask, examined_test b u, examined_test b o) (question_needs b u o all_rights p)
      (t.0, (t.1, ((nu, named), ((omega arith, omega arith), (is, tt)))))
      (refl, (small, h), examined_test_lem t.1 u, examined_test_lem t.1 o)

  module _ (mask in_strict : ℕ) where
    -- In the ordinary profile, and in the strict one.
    both_full : user_test mask in_strict ≡ true → (o : ℕ) → IsName o → object_test mask in_strict o ≡ true
        → Full b u o all_rights ordinary (0, mask, examined_test b u, examined_test b o)
        × Full b u o all_rights strict (0, in_strict, examined_test b u, examined_test b o)
    unfolding IsProfile profile_of
    both_full e o n h =
        let p = both (block_test b) _ e in
        let q = both (ltb u name_count) _ p.1 in
        let m = both (ltb mask (2 ^ right_count)) (ltb in_strict (2 ^ right_count)) q.1 in
        let t = block_test_lem b p.0 in
        let r = object_test_lem t.1 mask in_strict o h in
        let nu = ltb-true _ _ q.0 in (
          full ordinary mask (inl refl) t nu (ltb-true _ _ m.0) o n r.0,
          full strict in_strict (inr refl) t nu (ltb-true _ _ m.1) o n r.1,
        )

    -- The rights, and the numbers of records examined on the two sides.
    abbrev pub Tested : ℕ → ℕ → ℕ → Type 0
    Tested o i j = (rights_test mask in_strict o ≡ true) × (examined_test b u ≡ i) × (examined_test b o ≡ j)

    pub profiles_test : (o i j : ℕ) → Tested o i j
        → Full b u o all_rights ordinary (0, mask, i, j) × Full b u o all_rights strict (0, in_strict, i, j)
    profiles_test o i j (e, x, y) =
        let p = both (user_test mask in_strict) _ e in
        let q = both (ltb o name_count) (object_test mask in_strict o) p.1 in
        subst (λ (n : ℕ). Full b u o all_rights ordinary (0, mask, n, j) × Full b u o all_rights strict (0, in_strict, n, j)) x
        (subst
        (λ (n : ℕ). Full b u o all_rights ordinary (0, mask, examined_test b u, n) × Full b u o all_rights strict (0, in_strict, examined_test b u, n))
        y (both_full p.0 o (ltb-true _ _ q.0) q.1))

    pub everywhere_test_lem : everywhere_test mask in_strict ≡ true → (o : ℕ) → IsName o
        → (i : ℕ) × (j : ℕ) × Full b u o all_rights ordinary (0, mask, i, j) × Full b u o all_rights strict (0, in_strict, i, j)
    everywhere_test_lem e o n =
        let p = both (user_test mask in_strict) _ e in
        let r = both_full p.0 o n (all_at (object_test mask in_strict) 0 name_count p.1 o (omega arith) n) in
        (_, _, r.0, r.1)

  -- The same rights in each profile.
  pub rights_test_lem : (mask o i j : ℕ) → Tested mask mask o i j → InEach (λ p. Full b u o all_rights p (0, mask, i, j))
  unfolding IsProfile
  rights_test_lem mask o i j e p is =
      let r = profiles_test mask mask o i j e in
      ⊎_elim (λ z. subst (λ (n : ℕ). Full b u o all_rights n (0, mask, i, j)) (sym z) r.0)
      (λ z. subst (λ (n : ℕ). Full b u o all_rights n (0, mask, i, j)) (sym z) r.1) is
