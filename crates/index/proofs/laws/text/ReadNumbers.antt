-- A number that is written in decimal is read as that number.
use Prim.Native.Nat.{ℕ, suc, ◌+◌, ◌-◌, ◌*◌, ◌<◌, ◌≤◌}
use mathlib.Core.Path.{◌≡◌, refl, ap, ◌∙◌}
use mathlib.Core.Bool.{Bool, true, false, cond}
use mathlib.Core.List.{List, [], ◌∷◌, ◌++◌}
use mathlib.Core.Logic.{⊎_elim}
use lib.ListN.{length}
use lib.Dec.{leb}
use native.Mathlib.Omega.{arith}
use borrow.Author.Tests.{le-leb, eq-eqb, ne_eqb, leb-true}
use Rattle.index.specs.Text.{decimal}
use Rattle.index.specs.work.Reading.{digit, reaches, begins, read_digits, read_number}
use Rattle.index.specs.work.Reading.Parsed.{got}
use Rattle.index.proofs.laws.text.Decimal.{first, digit_yes, digit_bounds, decimal_zero, decimal_five, decimal_spelt, value, value_ge, Digits, Spells}
use Rattle.index.proofs.laws.text.Decimal.Digits.{none, next}
use Rattle.index.proofs.laws.text.Decimal.Spells.{spells}
use Rattle.index.proofs.laws.text.TakenApart.{cond_inv, and_true}

module _ (least most : ℕ) where
  reaches_most : (d lo hi : ℕ) → reaches least most d lo hi ≡ true → lo ≤ most
  unfolding reaches
  reaches_most ℕ.zero lo hi e = leb-true lo most (and_true (leb lo most) _ e).0
  reaches_most (suc d) lo hi e =
      ⊎_elim (λ w. leb-true lo most w.0) (λ w. let z : ◌≡◌ {A = ℕ} 0 1 = cc w.1 in absurd (omega arith))
      (cond_inv (leb lo most) _ _ e)

  pub begins_most : (n : ℕ) → begins least most n ≡ true → n ≤ most
  begins_most n e = reaches_most 4 n n e

  cond_true : (t x : Bool) → x ≡ true → cond t true x ≡ true
  cond_true true x e = refl
  cond_true false x e = e

  -- the digits of a number from `least` to `most` begin one
  reaches_value : (d n lo hi : ℕ) {t : List ℕ} → Digits t → length t ≤ d → lo ≤ n → n ≤ hi → least ≤ value n t → value n t ≤ most
      → reaches least most d lo hi ≡ true
  unfolding reaches
  reaches_value ℕ.zero n lo hi none l p q u v = simp (le-leb lo most (omega arith), le-leb least hi (omega arith))
  reaches_value ℕ.zero n lo hi (next {b = b} e ds) l p q u v = absurd (omega arith)
  reaches_value (suc d) n lo hi none l p q u v = simp (le-leb lo most (omega arith), le-leb least hi (omega arith))
  reaches_value (suc d) n lo hi (next {b = b} {t = t} e ds) l p q u v =
      let bd = digit_bounds b e in
      simp (le-leb lo most (omega (arith, value_ge (10 * n + (b - 48)) t)))
      (cond_true (leb least hi) _
      (reaches_value d (10 * n + (b - 48)) (10 * lo) (10 * hi + 9) ds (omega arith) (omega arith) (omega arith) u v))

module _ (least most : ℕ) where
  digits_stop : (n : ℕ) (r : List ℕ) → least ≤ n → digit (first r) ≡ false → read_digits least most n r ≡ got n r
  unfolding read_digits
  digits_stop n [] l h = simp (le-leb least n l)
  digits_stop n (b ∷ r) l h = simp (h, le-leb least n l)

  digits_complete : (n : ℕ) {t : List ℕ} (r : List ℕ) → Digits t → length t ≤ 5 → least ≤ value n t → value n t ≤ most
      → digit (first r) ≡ false → read_digits least most n (t ++ r) ≡ got (value n t) r
  unfolding read_digits
  digits_complete n r none k u l h = digits_stop n r u h
  digits_complete n r (next {b = b} {t = t} e ds) k u l h =
      simp (
        e,
        reaches_value least most 4 (10 * n + (b - 48)) (10 * n + (b - 48)) (10 * n + (b - 48)) ds (omega arith) (omega arith) (omega arith) u l,
      )
      (digits_complete (10 * n + (b - 48)) r ds (omega arith) u l h)

  pub spells_complete : (n : ℕ) {t : List ℕ} (r : List ℕ) → Spells n t → length t ≤ 5 → least ≤ n → n ≤ most → digit (first r) ≡ false
      → read_number least most (t ++ r) ≡ got n r
  unfolding read_number
  spells_complete n r (spells b t l u ds v) j m k h =
      let g : digit b ≡ true = digit_yes b (omega arith) u in
      simp (ne_eqb b 48 (omega arith), g)
      (digits_complete 0 r (next g ds) j (omega arith) (omega arith) h ∙ ap (λ (m : ℕ). got m r) v)

  pub number_complete : (n : ℕ) (r : List ℕ) → least ≤ n → n ≤ most → n < 100000 → digit (first r) ≡ false
      → read_number least most (decimal n ++ r) ≡ got n r
  unfolding read_number
  number_complete ℕ.zero r l k j h = rw decimal_zero (simp (eq-eqb least 0 (omega arith)))
  number_complete (suc n) r l k j h =
      spells_complete (suc n) r (decimal_spelt (suc n) (omega arith) (omega arith)) (decimal_five (suc n) j) l k h
