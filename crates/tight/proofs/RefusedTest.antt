-- A test of a refused message that computes: where it says yes, the changes of the message go through the blocks given, and the next one
-- is refused with the number.
use Prim.Native.Nat.{ℕ, ◌/◌, ◌%◌, ◌^◌, ◌<◌}
use mathlib.Core.Path.{◌≡◌, refl, ap}
use mathlib.Core.Bool.{Bool, true, false, cond, ◌&&◌}
use mathlib.Core.List.{List, [], ◌∷◌}
use mathlib.Core.Logic.{inl, inr, ⊎_elim}
use native.Mathlib.Omega.{arith}
use borrow.Author.Tests.{eqb-true, leb-true}
use lib.Dec.{eqb, leb}
use Rattle.index.specs.Letters.{letter_count, In}
use Rattle.index.specs.Block.{records, room}
use Rattle.index.specs.Message.{changes, Half, Change, own_count, change_needs, Carried}
use Rattle.index.specs.Message.Change.{take, add}
use Rattle.index.specs.Wide.{Sent, previous_of, new_of}
use Rattle.index.specs.Calls.{Sends}
use Rattle.index.proofs.laws.Tests.{both, all, all_at, some, some_at}
use Rattle.index.proofs.laws.message.MessageTest.{through_test, through_test_lem, pass_test, pass_test_lem}

-- ---- the change that is refused

module _ (b : List ℕ) (h : Half) where
  -- Letter k is in the mask, and its count is n.
  abbrev stands : ℕ → ℕ → Bool
  stands n k = eqb (h.mask / 2 ^ k % 2) 1 && eqb (own_count b h k) n

  abbrev missing : ℕ → Bool
  missing k = eqb (own_count b h k) 0

  -- The change is refused with the number r.
  abbrev take_test : ℕ → Bool
  take_test r = eqb r 6 && some (stands 0) 0 letter_count

  abbrev add_test : ℕ → Bool
  add_test r =
      cond (eqb r 7) (some (stands 65535) 0 letter_count)
      (eqb r 8 && (all missing 0 letter_count && leb (room b) (records b)))

  some_stands : (n : ℕ) → some (stands n) 0 letter_count ≡ true
      → (k : ℕ) × (k < letter_count) × In k h.mask × (own_count b h k ≡ n)
  some_stands n e =
      let (k, l, t) = some_at (stands n) 0 letter_count e in
      let p = both (eqb (h.mask / 2 ^ k % 2) 1) (eqb (own_count b h k) n) t in
      (k, l, eqb-true _ _ p.0, eqb-true _ _ p.1)

-- It is the first of those that are left.
abbrev refused_next : ℕ → List Change → List ℕ → Bool
refused_next r [] b = false
refused_next r (take h ∷ cs) b = take_test b h r
refused_next r (add h ∷ cs) b = add_test b h r

refused_next_lem : (b₀ : List ℕ) (r : ℕ) (cs : List Change) (b : List ℕ) → refused_next r cs b ≡ true → Carried b₀ cs b (r, b₀)
unfolding Carried change_needs
refused_next_lem b₀ r [] b e = let z : ◌≡◌ {A = ℕ} 0 1 = cc in absurd (omega arith)
refused_next_lem b₀ r (take h ∷ cs) b e =
    let p = both (eqb r 6) _ e in
    let (k, l, i, z) = some_stands b h 0 p.1 in
    inl ((λ needs. omega (arith, needs k l i)), ap (λ r. (r, b₀)) (eqb-true r 6 p.0))
refused_next_lem b₀ r (add h ∷ cs) b e = go (eqb r 7) refl e
  where
    go : (t : Bool) → eqb r 7 ≡ t
        → cond t (some (stands b h 65535) 0 letter_count) (eqb r 8 && (all (missing b h) 0 letter_count && leb (room b) (records b)))
        ≡ true
        → Carried b₀ (add h ∷ cs) b (r, b₀)
    go true q e =
        let (k, l, i, z) = some_stands b h 65535 e in
        inl ((λ needs. omega (arith, needs k l i)), ap (λ r. (r, b₀)) (eqb-true r 7 q))
    go false q e =
        let p = both (eqb r 8) _ e in
        let (none, full) = both (all (missing b h) 0 letter_count) (leb (room b) (records b)) p.1 in
        let zero : (k : ℕ) → k < letter_count → own_count b h k ≡ 0 =
        λ k l. eqb-true _ _ (all_at (missing b h) 0 letter_count none k (omega arith) l) in
        inr (
          (λ k l i. omega (arith, zero k l)),
          inl (
            (λ fits. ⊎_elim (λ v. omega (arith, zero v.0 v.1, v.2)) (λ l. omega (arith, leb-true (room b) (records b) full)) fits),
            ap (λ r. (r, b₀)) (eqb-true r 8 p.0),
          ),
        )

-- ---- the changes before it, and the message

abbrev pub stop_test : List Change → List ℕ → List (List ℕ) → ℕ → Bool
stop_test cs b ds r = through_test (refused_next r) cs b ds

pub stop_test_lem : (b₀ : List ℕ) (cs : List Change) (b : List ℕ) (ds : List (List ℕ)) (r : ℕ) → stop_test cs b ds r ≡ true
    → Carried b₀ cs b (r, b₀)
stop_test_lem b₀ cs b ds r e = through_test_lem (refused_next r) b₀ (λ b. (r, b₀)) (refused_next_lem b₀ r) cs b ds e

pub refused_test : (b : List ℕ) (m : Sent) (ds : List (List ℕ)) (r : ℕ) → pass_test b m ≡ true
    → stop_test (changes (previous_of m) (new_of m)) b ds r ≡ true → Sends b m (r, b)
refused_test b m ds r e f = pass_test_lem b m (r, b) e (stop_test_lem b (changes (previous_of m) (new_of m)) b ds r f)
