-- A block has one directory.
use Prim.Native.Nat.{ℕ, ◌+◌, ◌-◌, ◌*◌, ◌<◌, ◌≤◌}
use mathlib.Core.Path.{◌≡◌, sym, ap, subst, ◌∙◌}
use mathlib.Core.List.{List}
use mathlib.Core.Logic.{⊎_elim}
use native.Mathlib.Omega.{arith}
use lib.ListN.{get_or}
use lib.Seq.{ext_get_or}
use Rattle.index.specs.declared.Kind.{Kind}
use Rattle.index.specs.declared.Kind.TheVariants.{Membership, Permission, Filter}
use Rattle.index.specs.Block.{place}
use Rattle.index.proofs.laws.Range.{lt_or_le}
use Rattle.directory.specs.Directory.{part_length, directory_length, part_start, Lowest, BeginsAt, Own}

module _ {b : List ℕ} {lo hi x y i j : ℕ} where
  -- The first record not below a name does not stand after the first not below a higher one.
  pub lowest_rise : x ≤ y → Lowest b lo hi x i → Lowest b lo hi y j → i ≤ j
  lowest_rise h p q =
      ⊎_elim
      (λ l.
      let k = q.above j (omega arith) (omega (arith, p.high)) in
      absurd (omega (arith, p.below j q.low l)))
      (λ l. l) (lt_or_le j i)

pub one_lowest : {b : List ℕ} {lo hi x i j : ℕ} → Lowest b lo hi x i → Lowest b lo hi x j → i ≡ j
one_lowest p q = omega (arith, lowest_rise (omega arith) p q, lowest_rise (omega arith) q p)

pub one_begins : (b : List ℕ) (kind : Kind) (x : ℕ) {e f : ℕ} → BeginsAt b kind x e → BeginsAt b kind x f → e ≡ f
unfolding BeginsAt
one_begins b kind x (i, p, e) (j, q, f) = e ∙ ap place (one_lowest p q) ∙ sym f

-- ---- the three parts lie one after the other

pub part_in : (kind : Kind) → part_start kind + part_length ≤ directory_length
unfolding part_start
part_in Membership = omega arith
part_in Permission = omega arith
part_in Filter = omega arith

-- Each entry is that of a kind for some x.
entry_of : (t : ℕ) → t < directory_length → (kind : Kind) × (x : ℕ) × (x < part_length) × (part_start kind + x ≡ t)
unfolding part_start
entry_of t h =
    ⊎_elim (λ l. (Membership, t, l, omega arith))
    (λ l.
    ⊎_elim (λ k. (Permission, t - part_length, omega arith, omega arith))
    (λ k. (Filter, t - 2 * part_length, omega arith, omega arith)) (lt_or_le t (2 * part_length)))
    (lt_or_le t part_length)

pub one_directory : {b d d' : List ℕ} → Own b d → Own b d' → d ≡ d'
one_directory {b} {d} {d'} p q =
    ext_get_or 0 d d' (p.whole ∙ sym q.whole)
    (λ t h.
    let (kind, x, l, e) = entry_of t (omega (arith, p.whole)) in
    subst (λ (s : ℕ). get_or d s 0 ≡ get_or d' s 0) e (one_begins b kind x (p.each kind x l) (q.each kind x l)))
