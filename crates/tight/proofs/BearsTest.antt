-- Tests of what is reached, and of what bears, that compute, on a good block.
use Prim.Native.Nat.{ℕ}
use mathlib.Core.Path.{◌≡◌, refl, sym}
use mathlib.Core.Bool.{Bool, true, false, cond, ◌&&◌}
use mathlib.Core.List.{List}
use mathlib.Core.Logic.{◌⊎◌, ◌↔◌, inl, inr, ⊎_elim}
use borrow.Author.Tests.{eqb-true, eq-eqb}
use lib.Dec.{eqb}
use Rattle.index.specs.declared.Kind.{Kind}
use Rattle.index.specs.declared.Kind.TheVariants.{Membership, Permission, Filter}
use Rattle.index.specs.Block.{Good}
use Rattle.index.proofs.laws.message.Halves.{differ}
use Rattle.rights.specs.Groups.{Member}
use Rattle.rights.specs.Near.{Near}
use Rattle.rights.proofs.laws.held.Members.{member_where}
use Rattle.rights.proofs.laws.tests.ChainTest.{member, spread, chain_test_lem}
use Rattle.rights.proofs.laws.tests.MemberTest.{member_test, member_test_lem}
use Rattle.bearing.specs.Bearing.{Bears}
use Rattle.bearing.proofs.laws.Asking.{looked}
use Rattle.tight.proofs.MaskTest.{both_tests}

-- z is reached from x by at most n memberships.
abbrev pub near_test : ℕ → List ℕ → ℕ → ℕ → Bool
near_test n b x z = member z (spread b (member_test b) n x)

pub near_test_lem : {b : List ℕ} → Good b → (n x z : ℕ) → (near_test n b x z ≡ true) ↔ Near n b x z
near_test_lem {b} g = chain_test_lem b (member_test b) (Member b) (λ i of. member_test_lem g of) (λ x y m. member_where g m)

-- One of two tests.
either_test : {P Q : Type 0} (s t : Bool) → (s ≡ true) ↔ P → (t ≡ true) ↔ Q → (cond s true t ≡ true) ↔ (P ⊎ Q)
either_test true t p q = ((λ e. inl (p.0 refl)), (λ h. refl))
either_test false t p q = ((λ e. inr (q.0 e)), (λ h. ⊎_elim (λ l. absurd (differ (sym (p.1 l)))) (λ r. q.1 r) h))

abbrev pub bears_test : List ℕ → ℕ → ℕ → Kind → ℕ → ℕ → Bool
bears_test b u o Membership x y = cond (near_test 31 b u x) true (near_test 31 b o x)
bears_test b u o Permission x y = cond (near_test 32 b o x) true (eqb x 0) && near_test 32 b u y
bears_test b u o Filter x y = near_test 1 b o x

pub bears_test_lem : {b : List ℕ} → Good b → (u o : ℕ) (kind : Kind) (x y : ℕ) → (bears_test b u o kind x y ≡ true) ↔ Bears b u o kind x y
unfolding Bears
bears_test_lem g u o Membership x y = either_test _ _ (near_test_lem g 31 u x) (near_test_lem g 31 o x)
bears_test_lem g u o Permission x y =
    both_tests _ _ (either_test _ _ (near_test_lem g 32 o x) (eqb-true x 0, eq-eqb x 0)) (near_test_lem g 32 u y)
bears_test_lem {b} g u o Filter x y =
    let one = near_test_lem g 1 o x in
    let same = looked b o x in
    ((λ e. same.0 (one.0 e)), (λ h. one.1 (same.1 h)))
