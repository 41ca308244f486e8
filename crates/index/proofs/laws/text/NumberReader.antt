-- What reading a number tells: the bytes read are a number in decimal, or begin one; and when its lower bound need not be
-- looked at.
use Prim.Native.Nat.{ℕ, suc, ◌+◌, ◌-◌, ◌*◌, ◌/◌, ◌%◌, max, ◌<◌, ◌≤◌}
use mathlib.Core.Path.{◌≡◌, refl, sym, ap, subst, ◌∙◌}
use mathlib.Core.Bool.{Bool, true, false, cond}
use mathlib.Core.List.{List, [], ◌∷◌, ◌++◌, append_assoc, append-nil}
use mathlib.Core.Logic.{⊎_elim}
use lib.Dec.{eqb, leb}
use native.Mathlib.Omega.{arith}
use borrow.Author.Tests.{leb-true, eqb-true, eqb-false}
use Rattle.index.specs.Text.{decimal}
use Rattle.index.specs.work.Reading.{digit, reaches, begins, ends, read_digits, read_number}
use Rattle.index.specs.work.Reading.Parsed.{got, wrong}
use Rattle.index.proofs.laws.text.Decimal.{first, digit_bounds, decimal_step, decimal_snoc, decimal_small, decimal_zero}
use Rattle.index.proofs.laws.text.TakenApart.{guard_inv, cond_inv, and_true}
use Rattle.index.proofs.laws.text.Readers.{Begun, Tells, Reader, tells_as, tells_end, tells_byte, tells_next, reader_got, reader_wrong, reader_if, reads}
use Rattle.index.proofs.laws.text.ReadNumbers.{begins_most, number_complete}

-- what a number from `least` to `most` is written as
abbrev pub Number : ℕ → ℕ → ℕ → List ℕ → Type 0
Number least most m u = (decimal m ≡ u) × (least ≤ m) × (m ≤ most)

one_digit : (n b : ℕ) → 10 * n + (b - 48) < 100000 → 1 ≤ n → digit b ≡ true → decimal (10 * n + (b - 48)) ≡ decimal n ++ (b ∷ [])
one_digit n b k l e =
    let bd = digit_bounds b e in
    let bb : 48 + (b - 48) ≡ b = omega arith in
    decimal_snoc n (b - 48) l (omega arith) (omega arith) ∙ ap (λ (x : ℕ). decimal n ++ (x ∷ [])) bb

first_digit : (b : ℕ) → digit b ≡ true → decimal (10 * 0 + (b - 48)) ≡ b ∷ []
first_digit b e =
    let bd = digit_bounds b e in
    let bb : 48 + (10 * 0 + (b - 48)) ≡ b = omega arith in
    decimal_small (10 * 0 + (b - 48)) (omega arith) ∙ ap (λ (x : ℕ). x ∷ []) bb

module _ (least most : ℕ) (l : least ≤ most) (j : most < 100000) where
  -- what is written as n and then the digits u
  abbrev From : ℕ → ℕ → List ℕ → Type 0
  From n m u = Number least most m (decimal n ++ u)

  -- each number from lo to hi is written as n and then digits
  abbrev Spans : ℕ → ℕ → ℕ → Type 0
  Spans lo hi n = (m : ℕ) → lo ≤ m → m ≤ hi → m ≤ most → (u : List ℕ) × (decimal m ≡ decimal n ++ u)

  spans_next : (lo hi n : ℕ) → 1 ≤ lo → Spans lo hi n → Spans (10 * lo) (10 * hi + 9) n
  spans_next lo hi n k f m p q r =
      let (u, g) = f (m / 10) (omega arith) (omega arith) (omega arith) in (
        u ++ ((48 + m % 10) ∷ []),
        decimal_step m (omega arith) (omega arith) ∙ ap (λ (x : List ℕ). x ++ ((48 + m % 10) ∷ [])) g
            ∙ append_assoc (decimal n) u ((48 + m % 10) ∷ []),
      )

  reaches_now : (lo hi n : ℕ) → lo ≤ hi → Spans lo hi n → leb lo most ≡ true → leb least hi ≡ true → Begun ℕ (From n) []
  reaches_now lo hi n o f p q =
      let low = leb-true lo most p in
      let high = leb-true least hi q in
      let (u, g) = f (max lo least) (omega arith) (omega arith) (omega arith) in
      (max lo least, u, (g, omega arith, omega arith))

  reaches_some : (d lo hi n : ℕ) → reaches least most d lo hi ≡ true → 1 ≤ lo → lo ≤ hi → Spans lo hi n → Begun ℕ (From n) []
  unfolding reaches
  reaches_some ℕ.zero lo hi n e k o f = let w = and_true (leb lo most) _ e in reaches_now lo hi n o f w.0 w.1
  reaches_some (suc d) lo hi n e k o f =
      ⊎_elim
      (λ w.
      ⊎_elim (λ v. reaches_now lo hi n o f w.0 v.0)
      (λ v. reaches_some d (10 * lo) (10 * hi + 9) n v.1 (omega arith) (omega arith) (spans_next lo hi n k f))
      (cond_inv (leb least hi) _ _ w.1))
      (λ w. let z : ◌≡◌ {A = ℕ} 0 1 = cc w.1 in absurd (omega arith))
      (cond_inv (leb lo most) _ _ e)

  begins_some : (n : ℕ) → 1 ≤ n → begins least most n ≡ true → Begun ℕ (From n) []
  begins_some n k e =
      reaches_some 4 n n n e k (omega arith)
      (λ m p q r. let z : m ≡ n = omega arith in ([], ap decimal z ∙ sym (append-nil (decimal n))))

  ends_reader : (n : ℕ) → 1 ≤ n → begins least most n ≡ true → Reader ℕ (ends least n) (From n)
  ends_reader n k e =
      reader_if (From n) (leb least n) n
      (λ g. (sym (append-nil (decimal n)), leb-true least n g, begins_most least most n e)) (λ g. begins_some n k e)

  digits_reader : (n : ℕ) (t : List ℕ) → 1 ≤ n → begins least most n ≡ true
      → Tells ℕ (read_digits least most n) (From n) t (read_digits least most n t)
  unfolding read_digits
  digits_reader n [] k e = tells_end (read_digits least most n) (From n) (ends least n) _ (ends_reader n k e []) refl
  digits_reader n (b ∷ t) k e =
      go (digit b) refl (begins least most (10 * n + (b - 48))) refl
      (λ g. digits_reader (10 * n + (b - 48)) t (omega arith) g)
    where
      go : (d : Bool) → digit b ≡ d → (g : Bool) → begins least most (10 * n + (b - 48)) ≡ g
          → (begins least most (10 * n + (b - 48)) ≡ true
          → Tells ℕ (read_digits least most (10 * n + (b - 48))) (From (10 * n + (b - 48))) t (read_digits least most (10 * n + (b - 48)) t))
          → Tells ℕ (read_digits least most n) (From n) (b ∷ t)
          (cond d (cond g (read_digits least most (10 * n + (b - 48)) t) (wrong (b ∷ t))) (ends least n (b ∷ t)))
      go true p true q h =
          tells_next (read_digits least most n) (From n) (read_digits least most (10 * n + (b - 48))) b t _
          (tells_as (read_digits least most (10 * n + (b - 48))) (From (10 * n + (b - 48))) (λ m u. From n m (b ∷ u)) t _
          (λ m u w. (
            w.0 ∙ ap (λ (x : List ℕ). x ++ u) (one_digit n b (omega (arith, begins_most least most (10 * n + (b - 48)) q)) k p)
                ∙ append_assoc (decimal n) (b ∷ []) u,
            w.1,
            w.2,
          ))
          (h q))
          (λ s. simp (p, q))
      go true p false q h =
          tells_byte (read_digits least most n) (From n) wrong b t _ (reader_wrong (From n) (begins_some n k e) (b ∷ t)) (λ s. simp (p, q))
      go false p g q h =
          tells_byte (read_digits least most n) (From n) (ends least n) b t _ (ends_reader n k e (b ∷ t)) (λ s. simp p)

  some_number : Begun ℕ (Number least most) []
  some_number = (least, decimal least, (refl, omega arith, l))

  pub number_reader : Reader ℕ (read_number least most) (Number least most)
  unfolding read_number read_digits
  number_reader [] = tells_end (read_number least most) (Number least most) wrong _ (reader_wrong (Number least most) some_number []) refl
  number_reader (b ∷ t) = go (eqb b 48) refl (eqb least 0) refl (digit b) refl (begins least most (10 * 0 + (b - 48))) refl
    where
      none : Tells ℕ wrong (Number least most) (b ∷ t) (wrong (b ∷ t))
      none = reader_wrong (Number least most) some_number (b ∷ t)

      go : (z : Bool) → eqb b 48 ≡ z → (y : Bool) → eqb least 0 ≡ y → (d : Bool) → digit b ≡ d
          → (g : Bool) → begins least most (10 * 0 + (b - 48)) ≡ g
          → Tells ℕ (read_number least most) (Number least most) (b ∷ t)
          (cond z (cond y (got 0 t) (wrong (b ∷ t)))
          (cond d (cond d (cond g (read_digits least most (10 * 0 + (b - 48)) t) (wrong (b ∷ t))) (ends least 0 (b ∷ t))) (wrong (b ∷ t))))
      go true p true q d r g e =
          let z : least ≡ 0 = eqb-true least 0 q in
          tells_next (read_number least most) (Number least most) (got 0) b t _
          (reader_got (λ m u. Number least most m (b ∷ u)) 0
          (decimal_zero ∙ ap (λ (x : ℕ). x ∷ []) (sym (eqb-true b 48 p)), omega arith, omega arith) t)
          (λ s. simp (p, q))
      go true p false q d r g e = tells_byte (read_number least most) (Number least most) wrong b t _ none (λ s. simp (p, q))
      go false p y q true r true e =
          let bd = digit_bounds b r in
          let z = eqb-false b 48 p in
          tells_next (read_number least most) (Number least most) (read_digits least most (10 * 0 + (b - 48))) b t _
          (tells_as (read_digits least most (10 * 0 + (b - 48))) (From (10 * 0 + (b - 48))) (λ m u. Number least most m (b ∷ u)) t _
          (λ m u w. (w.0 ∙ ap (λ (x : List ℕ). x ++ u) (first_digit b r), w.1, w.2))
          (digits_reader (10 * 0 + (b - 48)) t (omega arith) e))
          (λ s. simp (p, r, e))
      go false p y q true r false e = tells_byte (read_number least most) (Number least most) wrong b t _ none (λ s. simp (p, r, e))
      go false p y q false r g e = tells_byte (read_number least most) (Number least most) wrong b t _ none (λ s. simp (p, r))

-- ---- a number that is high enough

digits_over : (least most n : ℕ) (t : List ℕ) {v : ℕ} {r : List ℕ} → read_digits least most n t ≡ got v r → digit (first r) ≡ false
unfolding read_digits digit
digits_over least most n [] {v} {r} e =
    let g = guard_inv (leb least n) _ _ e in
    let f = g.1 in
    let q : [] ≡ r = cc in
    subst (λ (x : List ℕ). digit (first x) ≡ false) q refl
digits_over least most n (b ∷ t) {v} {r} e =
    ⊎_elim
    (λ w. digits_over least most (10 * n + (b - 48)) t (guard_inv (begins least most (10 * n + (b - 48))) _ _ w.1).1)
    (λ w.
    let f = (guard_inv (leb least n) _ _ w.1).1 in
    let q : b ∷ t ≡ r = cc in
    subst (λ (x : List ℕ). digit (first x) ≡ false) q w.0)
    (cond_inv (digit b) _ _ e)

-- A number up to `most` that is `least` or more is what a number from `least` on is read as.
pub high_enough : (least most : ℕ) → most < 100000 → (t : List ℕ) {v : ℕ} {r : List ℕ} → read_number 0 most t ≡ read_digits 0 most 0 t
    → read_digits 0 most 0 t ≡ got v r → least ≤ v → read_number least most t ≡ got v r
high_enough least most j t {v} {r} same e l =
    let (u, q, w) = reads (Number 0 most) (read_number 0 most) (number_reader 0 most (omega arith) j) t (same ∙ e) in
    ap (read_number least most) (q ∙ ap (λ (x : List ℕ). x ++ r) (sym w.0))
    ∙ number_complete least most v r l w.2 (omega (arith, w.2)) (digits_over 0 most 0 t e)
