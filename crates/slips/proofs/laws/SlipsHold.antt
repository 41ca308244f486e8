-- "A slip is found exactly when the right is held", what the finder writes passes the check, and a slip that passes it shows that the right is held:
-- over the promises of the two calls and of the full question, in the ordinary profile.
use Prim.Native.Nat.{ℕ, suc, ◌+◌, ◌^◌, ◌<◌, ◌≤◌}
use mathlib.Core.Path.{◌≡◌, refl, ap, subst}
use mathlib.Core.List.{List}
use mathlib.Core.Logic.{◌⊎◌, ◌↔◌, inl, inr}
use native.Mathlib.Omega.{arith}
use native.Mathlib.Numerals.{add-one}
use lib.ListN.{length, get_or, take, drop}
use lib.Seq.{take-append_seam}
use Rattle.index.specs.declared.Kind.TheVariants.{Membership}
use Rattle.index.specs.Letters.{right_count}
use Rattle.index.specs.Numbers.{Each}
use Rattle.index.specs.Block.{IsName, Good}
use Rattle.index.specs.Calls.{block_needs}
use Rattle.index.proofs.laws.Firsts.{All, first_passed, first_sure}
use Rattle.index.proofs.laws.block.Masks.{four, in_power, mask_covers}
use Rattle.index.proofs.laws.message.Packing.{at_each}
use Rattle.directory.proofs.Numbered.{id_name}
use Rattle.rights.specs.Held.{Carries, Holds, chain_limit}
use Rattle.rights.specs.Profiles.{ordinary, IsProfile, HoldsIn, profile_of}
use Rattle.rights.specs.Questions.{question_needs, Limited, Reports, unreported, Full}
use Rattle.rights.specs.Through.{through_needs}
use Rattle.rights.proofs.laws.ByNumber.{net_where}
use Rattle.rights.proofs.laws.questions.Letting.{Named}
use Rattle.slips.specs.Slip.{Names, ZeroAlone, Slip}
use Rattle.slips.specs.Calls.{ForRight, OneRight, IsChain, check_needs, Judged, ChecksSlip, Outcome, find_needs, Found, NoneFound, FindsSlip}
use Rattle.slips.proofs.laws.Naming.{slip_holds}
use Rattle.slips.proofs.laws.Rights.{right_of_one, for_right}
use Rattle.slips.proofs.laws.Checking.{right_small}

module _ (b : List ℕ) (u o right : ℕ) where
  -- ---- the full question about one right

  module _ (named : Named b u o) (one : OneRight right) where
    asked : All (question_needs b u o right ordinary)
    unfolding question_needs block_needs IsProfile
    asked =
        let small = right_small (right_of_one one) in
        (named.sized, (named.good, ((named.user, named.object), ((some one.0 one.1 one.2, omega (arith, small)), (inl refl, tt)))))
      where
        some : (k : ℕ) → k < right_count → right ≡ 2 ^ k → 1 ≤ right
        some = four (λ k. right ≡ 2 ^ k → 1 ≤ right) (λ e. omega arith) (λ e. omega arith) (λ e. omega arith) (λ e. omega arith)

    -- It answers the right just when it is held.
    full_held : (c : ℕ × ℕ × ℕ × ℕ) → Full b u o right ordinary c → (c.0 ≡ 0) × ((c.1 ≡ right) ↔ ForRight right (Holds chain_limit b u o))
    unfolding Full Limited HoldsIn profile_of
    full_held c f =
        let r = first_sure unreported (Reports (profile_of ordinary) b u o right) c (question_needs b u o right ordinary) asked f in
        let covers = mask_covers right (right_small (right_of_one one)) r.1 in (
          r.0,
          (
            (λ e. (one.0, one.1, one.2, covers.0 e one.0 one.1 (rw one.2 ((in_power one.0 one.0).1 refl)))),
            (λ p. covers.1 (λ j h i. held p j ((in_power one.0 j).0 (rw one.2 at i)))),
          ),
        )
      where
        held : ForRight right (Holds chain_limit b u o) → (j : ℕ) → j ≡ one.0 → Holds chain_limit b u o j
        held p j e = rw e ((for_right (Holds chain_limit b u o) (right_of_one one)).0 p)

  -- ---- what an accepted call says

  module _ (us os : List ℕ) where
    found_or_none : (a : Outcome) → FindsSlip b u o right us os a → a.0 ≡ 0
        → Named b u o × OneRight right × (Found b u o right us os a ⊎ NoneFound b u o right us os a)
    unfolding FindsSlip find_needs through_needs block_needs
    found_or_none a f e =
        let r =
        first_passed (λ n. (n, 0, 0, us, os)) (λ a. Found b u o right us os a ⊎ NoneFound b u o right us os a) a (λ a. a.0) (λ n. refl)
        (find_needs b u o right us os) (omega arith) e f in
        let n = r.0 in
        (record { sized = n.0; good = n.1.0; user = n.1.1.0.0; object = n.1.1.0.1 }, n.1.1.1.0, r.1)

    judged : (d : ℕ × ℕ) → ChecksSlip b u o right us os d → d.0 ≡ 0 → Named b u o × OneRight right × Judged b u o right us os d
    unfolding ChecksSlip check_needs through_needs block_needs
    judged d f e =
        let r = first_passed (λ n. (n, 0)) (Judged b u o right us os) d (λ a. a.0) (λ n. refl) (check_needs b u o right us os) (omega arith) e f in
        let n = r.0 in
        (record { sized = n.0; good = n.1.0; user = n.1.1.0.0; object = n.1.1.0.1 }, n.1.1.1.1.0, r.1)

    -- ---- the laws

    -- "A slip is found exactly when the right is held."
    pub found_held : (a : Outcome) (c : ℕ × ℕ × ℕ × ℕ) → FindsSlip b u o right us os a → a.0 ≡ 0 → Full b u o right ordinary c
        → (c.0 ≡ 0) × ((0 < a.1) ↔ (c.1 ≡ right))
    found_held a c f e full =
        let (named, one, sought) = found_or_none a f e in
        let held = full_held named one c full in
        (held.0, ((λ l. held.1.1 (shown l sought)), (λ q. some (held.1.0 q) sought)))
      where
        shown : 0 < a.1 → Found b u o right us os a ⊎ NoneFound b u o right us os a → ForRight right (Holds chain_limit b u o)
        shown l (inl (xs, ys, (k, h, q, p), w)) = (k, h, q, slip_holds p.slip)
        shown l (inr p) = absurd (omega (arith, ap (λ (a : Outcome). a.1) p.1))

        some : ForRight right (Holds chain_limit b u o) → Found b u o right us os a ⊎ NoneFound b u o right us os a → 0 < a.1
        some h (inl (xs, ys, (k, l, q, p), w)) = omega (arith, ap (λ (a : Outcome). a.1) w, p.slip.user_names.some)
        some h (inr p) = absurd (p.0 h)

    -- "A separate small check" "says yes exactly when its chains and grant, with the filters, meet the rules": then the right is held.
    pub checked_held : (c : ℕ × ℕ × ℕ × ℕ) → ChecksSlip b u o right us os (0, 1) → Full b u o right ordinary c → (c.0 ≡ 0) × (c.1 ≡ right)
    checked_held c f full =
        let (named, one, j) = judged (0, 1) f refl in
        let held = full_held named one c full in
        let (k, h, e, p) = j.2.0 refl in
        (held.0, held.1.1 (k, h, e, slip_holds p))

  -- Every name on a slip is one.
  each_name : (k : ℕ) {x : ℕ} (names : List ℕ) → Good b → IsName x → Names (Carries b k) x names → Each IsName names
  unfolding Carries
  each_name k names good h n = at_each IsName names at
    where
      at : (i : ℕ) → i < length names → IsName (get_or names i 0)
      at ℕ.zero l = rw n.starts h
      at (suc i) l =
          let (j, a, net) = net_where good Membership k (n.linked i (omega arith)) in
          let e : get_or names (i + 1) 0 ≡ get_or names (suc i) 0 = rw add-one in
          rw (← e, ← a.has_id) (id_name good Membership a.of)

  -- A slip is not refused.
  passes : (k : ℕ) {us os : List ℕ} → Named b u o → OneRight right → Slip b u o k us os → (d : ℕ × ℕ) → ChecksSlip b u o right us os d
      → Judged b u o right us os d
  unfolding ChecksSlip check_needs through_needs block_needs
  passes k {us} {os} named one p d checks =
      first_sure (λ n. (n, 0)) (Judged b u o right us os) d (check_needs b u o right us os)
      (named.sized, (named.good, ((named.user, named.object), ((each_name k us named.good named.user p.user_names, (side p.object_names).0), (one, (((p.user_names.some, p.user_names.few), (side p.object_names).1), tt))))))
      checks
    where
      side : {os : List ℕ} → Names (Carries b k) o os ⊎ ZeroAlone os → Each IsName os × IsChain os
      side {os} (inl n) = (each_name k os named.good named.object n, (n.some, n.few))
      side {os} (inr z) = rw z ((omega arith, tt), (omega arith, omega arith))

  -- What the finder writes passes the check.
  pub found_checks : (us os : List ℕ) (a : Outcome) (d : ℕ × ℕ) → FindsSlip b u o right us os a → a.0 ≡ 0 → 0 < a.1
      → ChecksSlip b u o right (take a.1 a.3) (take a.2 a.4) d → d ≡ (0, 1)
  found_checks us os a d f e l checks = go (found_or_none us os a f e)
    where
      go : Named b u o × OneRight right × (Found b u o right us os a ⊎ NoneFound b u o right us os a) → d ≡ (0, 1)
      go (named, one, inr p) = absurd (omega (arith, ap (λ (a : Outcome). a.1) p.1))
      go (named, one, inl (xs, ys, (k, h, q, p), w)) =
          let written = subst (λ (a : Outcome). ChecksSlip b u o right (take a.1 a.3) (take a.2 a.4) d) w checks in
          let j = passes k named one p.slip d (rw (take-append_seam xs (drop (length xs) us), take-append_seam ys (drop (length ys) os)) at written) in
          let number = j.0 in
          let yes = j.2.1 (k, h, q, p.slip) in
          λ i. (number i, yes i)
