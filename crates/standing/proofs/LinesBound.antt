-- How long the lines of all sets can be.
use Prim.Native.Nat.{ℕ, zero, suc, ◌+◌, ◌*◌, ◌<◌, ◌≤◌}
use mathlib.Core.Path.{◌≡◌, refl}
use mathlib.Core.List.{List, [], ◌∷◌}
use native.Mathlib.Decide.{ℕ_discrete}
use native.Mathlib.Omega.{arith}
use borrow.Author.Tests.{eq-eqb, ne_eqb}
use lib.ListN.{length, length-append}
use Rattle.index.specs.declared.Kind.{Kind}
use Rattle.index.specs.declared.Kind.TheVariants.{Membership, Permission, Filter}
use Rattle.index.specs.Block.{name_count, size, from, key}
use Rattle.index.specs.Text.{Entry, text_of, set_from, set_of}
use Rattle.index.specs.work.Longest.{field_digits, longest_record}
use Rattle.index.proofs.laws.text.Digits.{ten}
use Rattle.index.proofs.laws.text.Decimal.{decimal_five}
use Rattle.index.proofs.laws.text.IsSet.{is_set}
use Rattle.index.proofs.laws.text.TextBound.{text_bound}
use Rattle.index.proofs.laws.block.Records.{few_records}
use Rattle.standing.specs.Printed.{line_of, set_line, set_lines, block_lines}
use Rattle.standing.specs.work.Room.{Usable, longest_line, longest_sets}

-- ---- each record has one key

module _ (b : List ℕ) where
  -- How many of the n records from number i on have one of the m keys from x on.
  unfoldable keyed : ℕ → ℕ → ℕ → ℕ → ℕ
  keyed i n x zero = 0
  keyed i n x (suc m) = length (set_from b x i n) + keyed i n (x + 1) m

  module _ (i n x : ℕ) where
    own : key b i ≡ x → length (set_from b x i (suc n)) ≡ suc (length (set_from b x (i + 1) n))
    unfolding set_from
    own e = simp (eq-eqb (key b i) x e)

    other : (key b i ≡ x → ⊥) → length (set_from b x i (suc n)) ≡ length (set_from b x (i + 1) n)
    unfolding set_from
    other h = simp (ne_eqb (key b i) x h)

  keyed_none : (i x m : ℕ) → keyed i 0 x m ≡ 0
  unfolding keyed set_from
  keyed_none i x zero = refl
  keyed_none i x (suc m) = omega (arith, keyed_none i (x + 1) m)

  keyed_past : (i n x m : ℕ) → key b i < x → keyed i (suc n) x m ≡ keyed (i + 1) n x m
  unfolding keyed
  keyed_past i n x zero h = refl
  keyed_past i n x (suc m) h = omega (arith, other i n x (λ e. omega arith), keyed_past i n (x + 1) m (omega arith))

  keyed_next : (i n x m : ℕ) → keyed i (suc n) x m ≤ suc (keyed (i + 1) n x m)
  unfolding keyed
  keyed_next i n x zero = omega arith
  keyed_next i n x (suc m) =
      elim (ℕ_discrete (key b i) x) [
        | yes e ↦ omega (arith, own i n x e, keyed_past i n (x + 1) m (omega arith))
        | no h ↦ omega (arith, other i n x h, keyed_next i n (x + 1) m)
      ]

  keyed_few : (i n x m : ℕ) → keyed i n x m ≤ n
  keyed_few i zero x m = omega (arith, keyed_none i x m)
  keyed_few i (suc n) x m = omega (arith, keyed_next i n x m, keyed_few (i + 1) n x m)

-- ---- lines

line_bound : (kind : Kind) (x : ℕ) (es : List Entry) → x < ten field_digits → length (text_of es) ≤ longest_record * length es
    → length (line_of kind x es) ≤ longest_line * length es
unfolding line_of
line_bound kind x [] h t = omega arith
line_bound kind x (e ∷ es) h t = simp length-append (omega (arith, decimal_five x h))

module _ {b : List ℕ} (u : Usable b) where
  lines_bound : (kind : Kind) (x m : ℕ) → x + m ≤ name_count
      → length (set_lines b kind x m) ≤ longest_line * keyed b (from b kind) (size b kind) x m
  unfolding set_lines set_line set_of keyed
  lines_bound kind x zero h = omega arith
  lines_bound kind x (suc m) h =
      omega (
        arith,
        length-append (set_line b kind x) (set_lines b kind (x + 1) m),
        line_bound kind x (set_of b kind x) (omega arith) (text_bound (is_set u.good kind x)),
        lines_bound kind (x + 1) m (omega arith),
      )

  kind_bound : (kind : Kind) → length (set_lines b kind 0 name_count) ≤ longest_line * size b kind
  kind_bound kind = omega (arith, lines_bound kind 0 name_count (omega arith), keyed_few b (from b kind) (size b kind) 0 name_count)

  pub block_bound : length (block_lines b) ≤ longest_sets
  unfolding block_lines
  block_bound =
      simp length-append
      (omega (arith, kind_bound Membership, kind_bound Permission, kind_bound Filter, few_records u.sized u.good))
