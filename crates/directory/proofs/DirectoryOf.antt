-- Every good block has a directory. (It has one only: OneDirectory.)
use Prim.Native.Nat.{ℕ, zero, suc, ◌+◌, ◌*◌, ◌<◌}
use mathlib.Core.Path.{◌≡◌, refl, ap, subst, ◌∙◌}
use mathlib.Core.List.{List, [], ◌∷◌, ◌++◌}
use native.Mathlib.Omega.{arith}
use lib.ListN.{length, get_or, length-append, get_or-append}
use lib.Seq.{get_or-append-add}
use Rattle.index.specs.declared.Kind.{Kind}
use Rattle.index.specs.declared.Kind.TheVariants.{Membership, Permission, Filter}
use Rattle.index.specs.Block.{from, size, place, Good}
use Rattle.index.proofs.laws.block.Checked.{each_kind}
use Rattle.directory.specs.Directory.{part_length, part_start, StartsAt, BeginsAt, Own}
use Rattle.directory.specs.work.Entries.{Entries}
use Rattle.directory.proofs.Numbered.{keys_rise}
use Rattle.directory.proofs.Standing.{lowest_of}

-- The first n values of a function.
abbrev values : (ℕ → ℕ) → ℕ → List ℕ
values f zero = []
values f (suc n) = f 0 ∷ values (λ k. f (suc k)) n

values_many : (f : ℕ → ℕ) (n : ℕ) → length (values f n) ≡ n
values_many f zero = refl
values_many f (suc n) = ap suc (values_many (λ k. f (suc k)) n)

value_at : (f : ℕ → ℕ) (n x : ℕ) → x < n → get_or (values f n) x 0 ≡ f x
value_at f zero x h = absurd (omega arith)
value_at f (suc n) zero h = refl
value_at f (suc n) (suc x) h = value_at (λ k. f (suc k)) n x (omega arith)

-- One list after another.
later : (l s : List ℕ) (n x : ℕ) → length l ≡ n → get_or (l ++ s) (n + x) 0 ≡ get_or s x 0
later l s n x e = subst (λ (k : ℕ). get_or (l ++ s) (k + x) 0 ≡ get_or s x 0) e (get_or-append-add l s x 0)

module _ {b : List ℕ} (g : Good b) where
  -- Where the records of each key begin, and the entries of a part.
  begins : (kind : Kind) (x : ℕ) → (i : ℕ) × StartsAt b kind x i
  begins kind x =
      lowest_of b (from b kind) (size b kind) x (λ r s l k h. keys_rise g kind r s k (omega arith) (omega arith))

  abbrev numbers : Kind → List ℕ
  numbers kind = values (λ x. place (begins kind x).0) part_length

  own_part : (kind : Kind) (d : List ℕ) → ((x : ℕ) → x < part_length → get_or d (part_start kind + x) 0 ≡ get_or (numbers kind) x 0)
      → Entries b d kind
  unfolding BeginsAt
  own_part kind d same x h =
      ((begins kind x).0, (begins kind x).1, same x h ∙ value_at (λ x. place (begins kind x).0) part_length x h)

  many : (kind : Kind) → length (numbers kind) ≡ part_length
  many kind = values_many (λ x. place (begins kind x).0) part_length

  pub has_own : (d : List ℕ) × Own b d
  unfolding part_start
  has_own =
      let m = numbers Membership in
      let p = numbers Permission in
      let f = numbers Filter in (
        m ++ (p ++ f),
        record {
          whole = length-append m (p ++ f) ∙ omega (arith, length-append p f, many Membership, many Permission, many Filter);
          each =
              each_kind (λ kind. Entries b (m ++ (p ++ f)) kind)
              (own_part Membership (m ++ (p ++ f)) (λ x h.
              let e : 0 + x ≡ x = omega arith in
              rw e (get_or-append m (p ++ f) 0 x (omega (arith, many Membership)))))
              (own_part Permission (m ++ (p ++ f))
              (λ x h.
              later m (p ++ f) part_length x (many Membership) ∙ get_or-append p f 0 x (omega (arith, many Permission))))
              (own_part Filter (m ++ (p ++ f))
              (λ x h.
              let e : 2 * part_length + x ≡ part_length + (part_length + x) = omega arith in
              rw e (later m (p ++ f) part_length (part_length + x) (many Membership) ∙ later p f part_length x (many Permission))));
        },
      )
