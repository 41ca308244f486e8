-- Tests of texts that compute: the text of a set, and a text of none with its place; and what holds of the empty text on every block.
use Prim.Native.Nat.{ℕ, ◌-◌, ◌<◌, ◌≤◌}
use mathlib.Core.Path.{◌≡◌, refl, sym, ap, subst}
use mathlib.Core.Bool.{Bool, true, false, ◌&&◌}
use mathlib.Core.List.{List, [], ◌++◌}
use mathlib.Core.Logic.{inl, inr}
use native.Mathlib.Omega.{arith}
use borrow.Author.Tests.{ltb-true, leb-true, eqb-true}
use lib.Dec.{eqb, ltb, leb}
use lib.ListN.{length, drop}
use Rattle.index.specs.declared.Kind.{Kind}
use Rattle.index.specs.declared.Kind.TheVariants.{Membership, Permission, Filter}
use Rattle.index.specs.Letters.{letter_count}
use Rattle.index.specs.Block.{IsName, Sized, Good, records, room, count, name_count}
use Rattle.index.specs.Message.{IsKind, kind_of}
use Rattle.index.specs.Text.{Entry, text_of, set_of, IsSet, Writes, count_in, Replaced, Place}
use Rattle.index.specs.Calls.{block_needs, set_needs, write_needs, Read, OfNone, ReadsText, WritesSet, ReadsSet}
use Rattle.index.specs.work.Reading.{Parsed, parse}
use Rattle.index.specs.work.Reading.Parsed.{got, wrong}
use Rattle.index.proofs.laws.Tests.{both}
use Rattle.index.proofs.laws.Firsts.{first_sure}
use Rattle.index.proofs.laws.text.IsSet.{is_set}
use Rattle.index.proofs.laws.text.SetCounts.{set_counts}
use Rattle.index.proofs.laws.text.TextOnce.{writes_once, parse_wrong}
use Rattle.index.proofs.laws.text.Placing.{wrong_place}
use Rattle.tight.specs.Examples.{Anywhere}
use Rattle.tight.proofs.BlockTest.{block_test, block_test_lem}

-- ---- the text of a set

abbrev pub set_test : List ℕ → ℕ → ℕ → Bool
set_test b kind x = block_test b && (leb 1 kind && (leb kind 3 && ltb x name_count))

-- What a call about a set needs first.
record Set (b : List ℕ) (kind x : ℕ) : Type 0 where
  sized : Sized b
  good : Good b
  is_kind : IsKind kind
  named : IsName x

set_test_lem : (b : List ℕ) (kind x : ℕ) → set_test b kind x ≡ true → Set b kind x
unfolding IsKind
set_test_lem b kind x e =
    let p = both (block_test b) _ e in
    let q = both (leb 1 kind) _ p.1 in
    let r = both (leb kind 3) (ltb x name_count) q.1 in
    let t = block_test_lem b p.0 in
    record { sized = t.0; good = t.1; is_kind = (leb-true _ _ q.0, leb-true _ _ r.0); named = ltb-true _ _ r.1 }

-- The records of a good block fit.
fits : {b : List ℕ} → Good b → records b ≤ room b
unfolding room
fits g = omega (arith, g.fits)

module _ (b : List ℕ) (kind x : ℕ) (h : Set b kind x) where
  abbrev set : List Entry
  set = set_of b (kind_of kind) x

  written : Writes (kind_of kind) set (text_of set)
  unfolding Writes
  written = (is_set h.good (kind_of kind) x, refl)

  writes_own : (out : List ℕ) → length (text_of set) ≤ length out
      → WritesSet b kind x out (0, length (text_of set), text_of set ++ drop (length (text_of set)) out)
  unfolding WritesSet write_needs set_needs block_needs
  writes_own out l = inr (h.sized, inr (h.good, inr (h.is_kind, inr (h.named, inr (l, refl)))))

  -- The set is in the block already.
  own : Replaced (kind_of kind) x set b b
  own =
      record {
        good = h.good;
        same_length = refl;
        set = λ y k l. sym (set_counts b (kind_of kind) x y k);
        other_keys = λ x' y k n l. refl;
        other_kinds = λ K x' y k n l. refl;
      }

  reads_own : ReadsSet b kind x (text_of set) (0, length set, b)
  unfolding ReadsSet set_needs block_needs
  reads_own =
      inr (
        h.sized,
        inr (h.good, inr (h.is_kind, inr (h.named, inr (set, written, inr (omega (arith, fits h.good), (refl, refl, own)))))),
      )

pub text_test : (b : List ℕ) (kind x : ℕ) (t : List ℕ) (n : ℕ) → set_test b kind x ≡ true
    → text_of (set_of b (kind_of kind) x) ≡ t → length (set_of b (kind_of kind) x) ≡ n
    → ((out : List ℕ) → length t ≤ length out → WritesSet b kind x out (0, length t, t ++ drop (length t) out))
    × ReadsSet b kind x t (0, n, b)
text_test b kind x t n e p q =
    let h = set_test_lem b kind x e in (
      subst (λ (t : List ℕ). (out : List ℕ) → length t ≤ length out
          → WritesSet b kind x out (0, length t, t ++ drop (length t) out)) p (writes_own b kind x h),
      subst (λ (n : ℕ). ReadsSet b kind x t (0, n, b)) q
          (subst (λ (t : List ℕ). ReadsSet b kind x t (0, length (set_of b (kind_of kind) x), b)) p (reads_own b kind x h)),
    )

-- ---- a text of no set, and its place

abbrev is_wrong : List ℕ → ℕ → Parsed (List Entry) → Bool
is_wrong t place (got es s) = false
is_wrong t place (wrong s) = eqb (length t - length s) place

abbrev wrong_for : List ℕ → (Kind → ℕ) → Kind → Bool
wrong_for t place kind = is_wrong t (place kind) (parse kind t)

abbrev pub wrong_test : List ℕ → (Kind → ℕ) → Bool
wrong_test t place = wrong_for t place Membership && (wrong_for t place Permission && wrong_for t place Filter)

wrong_for_lem : (b : List ℕ) (kind : Kind) (t : List ℕ) (place : ℕ) → is_wrong t place (parse kind t) ≡ true → OfNone b kind t (9, place, b)
wrong_for_lem b kind t place = go (parse kind t) refl
  where
    go : (r : Parsed (List Entry)) → parse kind t ≡ r → is_wrong t place r ≡ true → OfNone b kind t (9, place, b)
    go (got fs s) p e = let z : ◌≡◌ {A = ℕ} 0 1 = cc in absurd (omega arith)
    go (wrong s) p e =
        (parse_wrong kind t p, refl, subst (Place kind t) (eqb-true (length t - length s) place e) (wrong_place kind t p), refl)

each_kind : (t : List ℕ) (place : Kind → ℕ) → wrong_test t place ≡ true → (kind : Kind) → wrong_for t place kind ≡ true
each_kind t place e = go
  where
    p : (wrong_for t place Membership ≡ true) × (wrong_for t place Permission && wrong_for t place Filter ≡ true)
    p = both (wrong_for t place Membership) _ e

    go : (kind : Kind) → wrong_for t place kind ≡ true
    go Membership = p.0
    go Permission = (both (wrong_for t place Permission) _ p.1).0
    go Filter = (both (wrong_for t place Permission) _ p.1).1

pub wrong_test_lem : (t : List ℕ) (place : Kind → ℕ) → wrong_test t place ≡ true
    → Anywhere (λ b kind x. ReadsSet b kind x t (9, place (kind_of kind), b))
unfolding ReadsSet set_needs block_needs
wrong_test_lem t place e b kind x s g k n =
    inr (s, inr (g, inr (k, inr (n, inl (wrong_for_lem b (kind_of kind) t (place (kind_of kind)) (each_kind t place e (kind_of kind)))))))

-- ---- the empty text, which is the empty set's

none : (kind : Kind) → Writes kind [] []
unfolding Writes text_of
none kind = (IsSet.empty, refl)

no_other : (kind : Kind) (es : List Entry) → Writes kind es [] → es ≡ []
no_other kind es w = writes_once kind [] es [] w (none kind)

empty_read : Anywhere (λ b kind x. (o : ℕ × ℕ × List ℕ) → ReadsSet b kind x [] o → Read b (kind_of kind) x [] o)
unfolding ReadsSet set_needs block_needs
empty_read b kind x s g k n o r = go (first_sure (λ n. (n, 0, b)) (ReadsText b (kind_of kind) x []) o (set_needs b kind x) (s, (g, (k, (n, tt)))) r)
  where
    go : ReadsText b (kind_of kind) x [] o → Read b (kind_of kind) x [] o
    go (inl f) = absurd (f.0 [] (none (kind_of kind)))
    go (inr (es, w, inl f)) = absurd (f.0 (omega (arith, fits g, ap length (no_other (kind_of kind) es w))))
    go (inr (es, w, inr f)) = subst (λ (es : List Entry). Read b (kind_of kind) x es o) (no_other (kind_of kind) es w) f.1

pub empty_text : Anywhere (λ b kind x. (o : ℕ × ℕ × List ℕ) → ReadsSet b kind x [] o → (o.0 ≡ 0) × (o.1 ≡ 0))
empty_text b kind x s g k n o r = let a = empty_read b kind x s g k n o r in (a.0, a.1)

-- Read in, it leaves no count of the key.
pub emptied : Anywhere (λ b kind x. (o : ℕ × ℕ × List ℕ) → ReadsSet b kind x [] o
    → (y k : ℕ) → k < letter_count → count o.2 (kind_of kind) x y k ≡ 0)
unfolding count_in
emptied b kind x s g k n o r y l h = (empty_read b kind x s g k n o r).2.set y l h
