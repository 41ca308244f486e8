-- Demand 3, second half: from an empty block on, each count is the number of statements standing.
use Prim.Native.Nat.{ℕ, ◌+◌, ◌<◌}
use native.Mathlib.Omega.{arith}
use native.Mathlib.Decide.{ℕ_discrete}
use mathlib.Core.Path.{◌≡◌, refl, ap}
use mathlib.Core.Bool.{Bool, cond, true, false}
use mathlib.Core.List.{List, [], ◌∷◌, ◌++◌, map}
use mathlib.Core.Logic.◌⊎◌.{inl, inr}
use lib.Dec.{eqb}
use borrow.Author.Tests.{eq-eqb, ne_eqb}
use Rattle.index.specs.declared.Kind.{Kind}
use Rattle.index.specs.declared.Kind.TheVariants.{Membership, Permission, Filter}
use Rattle.index.specs.Letters.{letter_count}
use Rattle.index.specs.Block.{size, records, count_from, count}
use Rattle.index.specs.Message.{changes, Half, taken, added}
use Rattle.index.specs.Message.Change.{add}
use Rattle.index.specs.Numbers.{Each}
use Rattle.index.specs.Calls.{Makes, make_needs}
use Rattle.index.specs.Wide.{previous_of, new_of}
use Rattle.index.specs.History.{Labelled, Statement, left, others, after, History, moves_of, tally}
use Rattle.index.specs.History.History.{nothing, accepted, refused}
use Rattle.index.proofs.laws.demands.AnyOrder.{sum, down, up, balance}
use Rattle.index.proofs.laws.demands.Pairs.{CountsOnce, counts_once}

no_records : (b : List ℕ) → records b ≡ 0 → (kind : Kind) → size b kind ≡ 0
no_records b z Membership = omega arith
no_records b z Permission = omega arith
no_records b z Filter = omega arith

-- No statement in the list has the label z; each label stands once.
abbrev Absent : ℕ → List Statement → Type 0
Absent z [] = Unit {0}
Absent z (e ∷ s) = ¬ (e.label ≡ z) × Absent z s

abbrev pub Once : List Statement → Type 0
Once [] = Unit {0}
Once (e ∷ s) = Absent e.label s × Once s

whole : (z : ℕ) (s : List Statement) → Absent z s → others z s ≡ s
unfolding others
whole z [] a = refl
whole z (e ∷ s) a = rw (ne_eqb e.label z a.0) (ap (λ r. e ∷ r) (whole z s a.1))

gone : (z : ℕ) (s : List Statement) → Absent z (others z s)
unfolding others
gone z [] = tt
gone z (e ∷ s) = go (ℕ_discrete e.label z) (gone z s)
  where
    go : Dec (e.label ≡ z) → Absent z (others z s) → Absent z (others z (e ∷ s))
    go (yes p) r = rw (eq-eqb e.label z p) r
    go (no p) r = rw (ne_eqb e.label z p) (p, r)

still : (w z : ℕ) (s : List Statement) → Absent w s → Absent w (others z s)
unfolding others
still w z [] a = tt
still w z (e ∷ s) a = go (eqb e.label z) (still w z s a.1)
  where
    go : (t : Bool) → Absent w (others z s) → Absent w (cond t (others z s) (e ∷ others z s))
    go true r = r
    go false r = (a.0, r)

once_others : (z : ℕ) (s : List Statement) → Once s → Once (others z s)
unfolding others
once_others z [] o = tt
once_others z (e ∷ s) o = go (eqb e.label z) (once_others z s o.1)
  where
    go : (t : Bool) → Once (others z s) → Once (cond t (others z s) (e ∷ others z s))
    go true r = r
    go false r = (still e.label z s o.0, r)

once_after : (m : Labelled) (s : List Statement) → Once s → Once (after m s)
unfolding after
once_after m s o = (gone m.label s, once_others m.label s o)

module _ (kind : Kind) (x y k : ℕ) where
  pub no_count : (b : List ℕ) → records b ≡ 0 → count b kind x y k ≡ 0
  unfolding count count_from
  no_count b z = rw (no_records b z kind)

  down_adds : (hs : List Half) → sum (down kind x y k) (map add hs) ≡ 0
  unfolding taken
  down_adds [] = refl
  down_adds (h ∷ hs) = omega (arith, down_adds hs)

  up_adds : (hs : List Half) → sum (up kind x y k) (map add hs) ≡ moves_of hs kind x y k
  unfolding added moves_of
  up_adds [] = refl
  up_adds (h ∷ hs) = omega (arith, up_adds hs)

  pub downs : (hs gs : List Half) → sum (down kind x y k) (changes hs gs) ≡ moves_of hs kind x y k
  unfolding changes taken moves_of
  downs [] gs = down_adds gs
  downs (h ∷ hs) gs = omega (arith, downs hs gs)

  pub ups : (hs gs : List Half) → sum (up kind x y k) (changes hs gs) ≡ moves_of gs kind x y k
  unfolding changes added
  ups [] gs = up_adds gs
  ups (h ∷ hs) gs = omega (arith, ups hs gs)

  pub apart : (z : ℕ) (s : List Statement) → Once s → tally (others z s) kind x y k + moves_of (left z s) kind x y k ≡ tally s kind x y k
  unfolding tally others left moves_of
  apart z [] o = refl
  apart z (e ∷ s) o = go (ℕ_discrete e.label z) (apart z s o.1)
    where
      go : Dec (e.label ≡ z) → tally (others z s) kind x y k + moves_of (left z s) kind x y k ≡ tally s kind x y k
          → tally (others z (e ∷ s)) kind x y k + moves_of (left z (e ∷ s)) kind x y k ≡ tally (e ∷ s) kind x y k
      go (yes p) r =
          let w = whole z s (rw p at o.0) in
          rw (eq-eqb e.label z p, w) (omega arith)
      go (no p) r = rw (ne_eqb e.label z p) (omega arith)

-- A statement "counts once in each of its pairs": it has each letter of a record once, or not at all.
abbrev pub Single : List Statement → Type 0
Single s = Each (λ e. CountsOnce e.halves) s

single_others : (z : ℕ) (s : List Statement) → Single s → Single (others z s)
unfolding others
single_others z [] o = tt
single_others z (e ∷ s) o = go (eqb e.label z) (single_others z s o.1)
  where
    go : (t : Bool) → Single (others z s) → Single (cond t (others z s) (e ∷ others z s))
    go true r = r
    go false r = (o.0, r)

-- What demand 3 says of a block and the statements at one moment: each statement stands in the list once, and counts at most
-- once in a letter of a record, and "each count, 0 for a missing record, equals the number of statements standing at that moment with that record
-- and that letter", and so many more, which no message touches.
pub record CountsWith (more : Kind → ℕ → ℕ → ℕ → ℕ) (b : List ℕ) (s : List Statement) : Type 0 where
  pub once : Once s
  pub single : Single s
  pub counts : (kind : Kind) (x y k : ℕ) → k < letter_count → count b kind x y k ≡ tally s kind x y k + more kind x y k

pub holds : {more : Kind → ℕ → ℕ → ℕ → ℕ} {b b' : List ℕ} {s s' : List Statement} {ms : List Labelled} → History b s ms b' s'
    → CountsWith more b s → CountsWith more b' s'
unfolding after tally
holds nothing e = e
holds (accepted {b} {b₁} {s = s} {m = m} h q p) e =
    holds p
    (record {
      once = once_after m s e.once;
      single = (counts_once b m.sent b₁ h, single_others m.label s e.single);
      counts = λ kind x y k l.
          omega (
            arith,
            (balance b m.sent b₁ h).counts kind x y k l,
            downs kind x y k (previous_of m.sent) (new_of m.sent),
            ups kind x y k (previous_of m.sent) (new_of m.sent),
            ap (λ hs. moves_of hs kind x y k) q,
            apart kind x y k m.label s e.once,
            e.counts kind x y k l,
          );
    })
holds (refused u h p) e = holds p e

-- What came before a moment is a history too.
moment : {b b' : List ℕ} {s s' : List Statement} (ms more : List Labelled) → History b s (ms ++ more) b' s'
    → (b₁ : List ℕ) × (s₁ : List Statement) × History b s ms b₁ s₁
moment [] more h = (_, _, nothing)
moment {b} (m ∷ ms) more (accepted {b₁ = b₁} g q p) = let r = moment {b = b₁} ms more p in (r.0, r.1, accepted g q r.2)
moment (m ∷ ms) more (refused u g p) = let r = moment ms more p in (r.0, r.1, refused u g r.2)

-- The block that make leaves has no records.
made_empty : (b₀ b : List ℕ) → Makes b₀ (0, b) → records b ≡ 0
unfolding Makes make_needs
made_empty b₀ b (inl r) = let z : ◌≡◌ {A = ℕ} 0 1 = ap (λ (o : ℕ × List ℕ). o.0) r.1 in absurd (omega arith)
made_empty b₀ b (inr r) = r.1.3

-- No statement stands in it, and no count is above 0.
abbrev pub none : Kind → ℕ → ℕ → ℕ → ℕ
none kind x y k = 0

pub made_counts : (b₀ b : List ℕ) → Makes b₀ (0, b) → CountsWith none b []
unfolding tally
made_counts b₀ b e =
    record { once = tt; single = tt; counts = λ kind x y k l. no_count kind x y k b (made_empty b₀ b e) }

-- Demand 3, second half: from the block that make leaves, at every moment of a history.
pub standing : (b₀ b : List ℕ) {b' : List ℕ} {s' : List Statement} (ms more : List Labelled) → Makes b₀ (0, b)
    → History b [] (ms ++ more) b' s' → (b₁ : List ℕ) × (s₁ : List Statement) × History b [] ms b₁ s₁ × CountsWith none b₁ s₁
standing b₀ b ms more e h = let p = moment ms more h in (p.0, p.1, p.2, holds p.2 (made_counts b₀ b e))
