-- The test of each case of the table, and that it means what the case says.
use Prim.Native.Nat.{ℕ}
use mathlib.Core.Path.{◌≡◌, refl, sym, subst}
use mathlib.Core.Bool.{Bool, true, false, ◌&&◌}
use mathlib.Core.List.{List, [], ◌∷◌}
use mathlib.Core.Logic.{inl, inr}
use borrow.Author.Tests.{eqb-true}
use lib.Dec.{eqb}
use lib.ListN.{length}
use Rattle.index.specs.Numbers.{Each}
use Rattle.index.specs.Message.{kind_of, changes}
use Rattle.index.specs.Wide.{Sent, previous_of, new_of, FormedOf}
use Rattle.index.specs.Calls.{block_needs, sent_needs, Sends}
use Rattle.index.specs.Text.{text_of, set_of}
use Rattle.index.proofs.laws.Tests.{both}
use Rattle.index.proofs.laws.message.Halves.{differ}
use Rattle.index.proofs.laws.message.MessageTest.{pass_test, sent_test, sent_test_lem, last_of}
use Rattle.rights.proofs.laws.tests.ExaminedTest.{examined_test}
use Rattle.tight.specs.Examples.{Case, Shows}
use Rattle.tight.proofs.BlockTest.{block_test, block_test_lem}
use Rattle.tight.proofs.RightsTest.{rights_test, Tested, profiles_test, rights_test_lem, everywhere_test, everywhere_test_lem}
use Rattle.tight.proofs.TextTest.{set_test, text_test, wrong_test, wrong_test_lem, empty_text}
use Rattle.tight.proofs.RefusedTest.{stop_test, refused_test}

-- The test of a case. A message goes through the blocks ds, to its end or until it is refused.
abbrev pub Test : Case → Type 0
Test (Case.rights b u o mask i j) = Tested b u mask mask o i j
Test (Case.profiles b u o mask in_strict i j) = Tested b u mask in_strict o i j
Test (Case.everywhere b u mask in_strict) = everywhere_test b u mask in_strict ≡ true
Test (Case.holds b u o mask in_strict) = rights_test b u mask in_strict o ≡ true
Test (Case.text b kind x t n) =
    (set_test b kind x ≡ true) × (text_of (set_of b (kind_of kind) x) ≡ t) × (length (set_of b (kind_of kind) x) ≡ n)
Test (Case.wrong t place) = wrong_test t place ≡ true
Test Case.empty = Unit {0}
Test (Case.accepted b m b') = (ds : List (List ℕ)) × (sent_test b m ds ≡ true) × (last_of b ds ≡ b')
Test (Case.refused b m n) =
    (ds : List (List ℕ)) × (pass_test b m ≡ true) × (stop_test (changes (previous_of m) (new_of m)) b ds n ≡ true)
Test (Case.malformed b m) = (block_test b ≡ true) × (FormedOf m → ⊥)

-- A message that has not its form, to a good block.
malformed : (b : List ℕ) (m : Sent) → block_test b ≡ true → (FormedOf m → ⊥) → Sends b m (3, b)
unfolding Sends sent_needs block_needs
malformed b m e wrong = let t = block_test_lem b e in inr (t.0, inr (t.1, inl (wrong, refl)))

-- Each test means what its case says.
means : (c : Case) → Test c → Shows c
means (Case.rights b u o mask i j) e = rights_test_lem b u mask o i j e
means (Case.profiles b u o mask in_strict i j) e = profiles_test b u mask in_strict o i j e
means (Case.everywhere b u mask in_strict) e = everywhere_test_lem b u mask in_strict e
means (Case.holds b u o mask in_strict) e =
    let r = profiles_test b u mask in_strict o _ _ (e, refl, refl) in (_, _, r.0, r.1)
means (Case.text b kind x t n) e = text_test b kind x t n e.0 e.1 e.2
means (Case.wrong t place) e = wrong_test_lem t place e
means Case.empty e = empty_text
means (Case.accepted b m b') e = subst (λ (d : List ℕ). Sends b m (0, d)) e.2 (sent_test_lem b m e.0 e.1)
means (Case.refused b m n) e = refused_test b m e.0 n e.1 e.2
means (Case.malformed b m) e = malformed b m e.0 e.1

pub all_mean : (cs : List Case) → Each Test cs → Each Shows cs
all_mean [] e = tt
all_mean (c ∷ cs) e = (means c e.0, all_mean cs e.1)

-- ---- the cases about rights, as one test that comes out true or false

abbrev pub numbers_test : List ℕ → ℕ → ℕ → ℕ → ℕ → Bool
numbers_test b u o i j = eqb (examined_test b u) i && eqb (examined_test b o) j

abbrev asked_test : Case → Bool
asked_test (Case.rights b u o mask i j) = rights_test b u mask mask o && numbers_test b u o i j
asked_test (Case.profiles b u o mask in_strict i j) = rights_test b u mask in_strict o && numbers_test b u o i j
asked_test (Case.everywhere b u mask in_strict) = everywhere_test b u mask in_strict
asked_test (Case.holds b u o mask in_strict) = rights_test b u mask in_strict o
asked_test (Case.text b kind x t n) = false
asked_test (Case.wrong t place) = false
asked_test Case.empty = false
asked_test (Case.accepted b m b') = false
asked_test (Case.refused b m n) = false
asked_test (Case.malformed b m) = false

pub tested : (b : List ℕ) (u mask in_strict o i j : ℕ) → rights_test b u mask in_strict o && numbers_test b u o i j ≡ true → Tested b u mask in_strict o i j
tested b u mask in_strict o i j e =
    let p = both (rights_test b u mask in_strict o) (numbers_test b u o i j) e in
    let q = both (eqb (examined_test b u) i) (eqb (examined_test b o) j) p.1 in
    (p.0, eqb-true _ _ q.0, eqb-true _ _ q.1)

asked : (c : Case) → asked_test c ≡ true → Test c
asked (Case.rights b u o mask i j) e = tested b u mask mask o i j e
asked (Case.profiles b u o mask in_strict i j) e = tested b u mask in_strict o i j e
asked (Case.everywhere b u mask in_strict) e = e
asked (Case.holds b u o mask in_strict) e = e
asked (Case.text b kind x t n) e = absurd (differ (sym e))
asked (Case.wrong t place) e = absurd (differ (sym e))
asked Case.empty e = absurd (differ (sym e))
asked (Case.accepted b m b') e = absurd (differ (sym e))
asked (Case.refused b m n) e = absurd (differ (sym e))
asked (Case.malformed b m) e = absurd (differ (sym e))

-- A test of each of a list, and what it says.
module _ {C : Type 0} (test : C → Bool) where
  abbrev pub all_tests : List C → Bool
  all_tests [] = true
  all_tests (c ∷ cs) = test c && all_tests cs

  pub all_tests_lem : (P : C → Type 0) → ((c : C) → test c ≡ true → P c) → (cs : List C) → all_tests cs ≡ true → Each P cs
  all_tests_lem P says [] e = tt
  all_tests_lem P says (c ∷ cs) e = let p = both (test c) (all_tests cs) e in (says c p.0, all_tests_lem P says cs p.1)

pub all_asked : (cs : List Case) → all_tests asked_test cs ≡ true → Each Shows cs
all_asked cs e = all_tests_lem asked_test Shows (λ c e. means c (asked c e)) cs e
