-- A test of the rights that computes: whether a user holds a right on an object as before, and whether it is barred, on a good block.
use Prim.Native.Nat.{ℕ, ◌+◌, ◌<◌}
use mathlib.Core.Path.{◌≡◌, sym, subst}
use mathlib.Core.Bool.{Bool, true, ◌&&◌}
use mathlib.Core.List.{List, ◌∷◌}
use mathlib.Core.Logic.{◌↔◌, inl, inr, ⊎_elim}
use borrow.Author.Tests.{ltb-true, lt-ltb}
use lib.Dec.{ltb}
use Rattle.index.specs.declared.Kind.TheVariants.{Permission}
use Rattle.index.specs.Letters.{right_count}
use Rattle.index.specs.Block.{from, size, key, id, count_at, Good}
use Rattle.index.proofs.laws.Tests.{both, some}
use Rattle.rights.specs.declared.Profile.TheVariants.{Strict}
use Rattle.rights.specs.Held.{Net, Holds}
use Rattle.rights.specs.Profiles.{Barred}
use Rattle.rights.specs.work.Between.{Led}
use Rattle.rights.proofs.laws.questions.Asking.{before, barred}
use Rattle.rights.proofs.laws.ByNumber.{at_self, Told, told_net, told_bars}
use Rattle.rights.proofs.laws.tests.ChainTest.{and_true, some_from, from_some, member, member_first, member_own, member_later, net_test, net_test_lem, carried_to, carried_test}
use Rattle.rights.proofs.laws.tests.FilterTest.{passes_test, passes_test_lem}
use Rattle.rights.proofs.laws.tests.OpenTest.{open_test, open_test_lem}

-- The test t holds of some P record, whose id is in the first list, and its key in the second.
abbrev reached_test : List ℕ → (ℕ → Bool) → List ℕ → List ℕ → ℕ → Bool
reached_test b t us os i = t i && (member (id b i) us && member (key b i) os)

abbrev some_test : List ℕ → (ℕ → Bool) → List ℕ → List ℕ → Bool
some_test b t us os = some (reached_test b t us os) (from b Permission) (size b Permission)

-- Record i denies right k.
abbrev denied_test : List ℕ → ℕ → ℕ → Bool
denied_test b k i = ltb 0 (count_at b i (k + right_count))

-- The names that chains of at most n records lead to.
abbrev reach : ℕ → List ℕ → ℕ → ℕ → List ℕ
reach n b k x = carried_to b k n x

abbrev pub holds_test : ℕ → List ℕ → ℕ → ℕ → ℕ → Bool
holds_test n b u o k =
    let us = reach n b k u in
    let os : List ℕ = 0 ∷ reach n b k o in
    ltb k right_count && (passes_test b o k && (open_test n b u o && some_test b (net_test b k) us os))

-- Barred.
abbrev pub barred_test : ℕ → List ℕ → ℕ → ℕ → ℕ → Bool
barred_test n b u o k =
    let us = reach n b k u in
    let os : List ℕ = 0 ∷ reach n b k o in
    some_test b (denied_test b k) us os

module _ {b : List ℕ} (g : Good b) (n u o k : ℕ) (small : k < right_count) {Q : ℕ → ℕ → Type 0} {P : ℕ → ℕ → ℕ → Type 0} (told : Told b Q P)
    (t : ℕ → Bool) (right : (i : ℕ) → (t i ≡ true) ↔ Q i k) where
  abbrev us : List ℕ
  us = reach n b k u

  abbrev os : List ℕ
  os = 0 ∷ reach n b k o

  -- A record of which the test holds, and the names s and g.
  pub led_test : (some_test b t us os ≡ true) ↔ Led n b u o P k
  unfolding Led
  led_test = (
    (λ e.
        let w = some_from (reached_test b t us os) (from b Permission) (size b Permission) e in
        let i = w.0 in
        let p = both (t i) (member (id b i) us && member (key b i) os) w.3 in
        let q = both (member (id b i) us) (member (key b i) os) p.1 in (
          id b i,
          key b i,
          record {
            user_chain = (carried_test b k g small n u (id b i)).0 q.0;
            object_chain = ⊎_elim (λ z. inr z) (λ m. inl ((carried_test b k g small n o (key b i)).0 m)) (member_first (key b i) 0 (reach n b k o) q.1);
          },
          (told.at k small (at_self (w.1, w.2))).0 ((right i).0 p.0),
        )),
    (λ l.
        let w = told.where_is k l.3 in
        let at = w.1 in
        let in_users = (carried_test b k g small n u l.0).1 l.2.user_chain in
        let in_objects : member l.1 os ≡ true =
        ⊎_elim (λ c. member_later l.1 0 (reach n b k o) ((carried_test b k g small n o l.1).1 c))
        (λ z. subst (λ (x : ℕ). member x os ≡ true) (sym z) (member_own 0 (reach n b k o))) l.2.object_chain in
        from_some (reached_test b t us os) (from b Permission) (size b Permission) w.0 at.of.0 at.of.1
        (and_true ((right w.0).1 ((told.at k small at).1 l.3))
        (and_true (subst (λ (y : ℕ). member y us ≡ true) (sym at.has_id) in_users)
        (subst (λ (x : ℕ). member x os ≡ true) (sym at.has_key) in_objects)))),
  )

pub barred_test_lem : {b : List ℕ} → Good b → (n u o k : ℕ) → k < right_count → (barred_test n b u o k ≡ true) ↔ Barred n b u o k
barred_test_lem {b} g n u o k small =
    let t = led_test g n u o k small (told_bars g Strict) (denied_test b k) (λ i. (ltb-true 0 _, lt-ltb 0 _)) in
    ((λ e. (barred n b u o k).0 (t.0 e)), (λ d. t.1 ((barred n b u o k).1 d)))

pub holds_test_lem : {b : List ℕ} → Good b → (n u o k : ℕ) → (holds_test n b u o k ≡ true) ↔ Holds n b u o k
unfolding Net
holds_test_lem {b} g n u o k = (
  (λ e.
      let a = both (ltb k right_count) _ e in
      let h = ltb-true k right_count a.0 in
      let q = both (passes_test b o k) _ a.1 in
      let v = both (open_test n b u o) _ q.1 in
      (before n b u o k).0 ((granted h).0 v.1, (passes_test_lem g k h o).0 q.0, (open_test_lem g n u o).0 v.0)),
  (λ held.
      let h = held.grant.0 in
      let q = (before n b u o k).1 held in
      and_true (lt-ltb k right_count h)
      (and_true ((passes_test_lem g k h o).1 q.1) (and_true ((open_test_lem g n u o).1 q.2) ((granted h).1 q.0)))),
)
  where
    granted : (h : k < right_count) → (some_test b (net_test b k) (reach n b k u) (0 ∷ reach n b k o) ≡ true) ↔ Led n b u o (Net b Permission) k
    granted h = led_test g n u o k h (told_net g) (net_test b k) (net_test_lem b k)
