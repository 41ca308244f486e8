-- A number in decimal: its digits spell it.
use Prim.Native.Nat.{ℕ, suc, ◌+◌, ◌-◌, ◌*◌, ◌/◌, ◌%◌, ◌<◌, ◌≤◌}
use mathlib.Core.Path.{◌≡◌, refl, sym, ap, ◌∙◌}
use mathlib.Core.Bool.{Bool, true, false, cond}
use mathlib.Core.List.{List, [], ◌∷◌, ◌++◌}
use mathlib.Core.Logic.{⊎_elim}
use lib.ListN.{length, get_or, length-append}
use lib.Dec.{ltb, leb}
use native.Mathlib.Omega.{arith}
use borrow.Author.Tests.{le-ltb, le-leb, lt-leb, ltb-false, leb-true}
use Rattle.std.specs.Char.{is_ascii_digit}
use Rattle.std.proofs.lemmas.Bool.Decides.{nat_tests}
use Rattle.index.specs.Text.{digits_of, most_digits, decimal}
use Rattle.index.specs.work.Longest.{field_digits}
use Rattle.index.specs.work.Reading.{digit}
use Rattle.index.proofs.laws.Range.{lt_or_le}
use Rattle.index.proofs.laws.text.Digits.{digits_small, digits_step, digits_more, digits_long, ten}

-- the first byte; `;` where there is none
abbrev pub first : List ℕ → ℕ
first t = get_or t 0 59

-- The library's test of a byte is that of a digit.
pub digit_test : (b : ℕ) → digit b ≡ is_ascii_digit b
unfolding digit
digit_test b = grind (arith, nat_tests)

pub digit_yes : (b : ℕ) → 48 ≤ b → b ≤ 57 → digit b ≡ true
unfolding digit
digit_yes b l h = simp (le-ltb b 48 l, le-leb b 57 h)

pub digit_high : (b : ℕ) → 57 < b → digit b ≡ false
unfolding digit
digit_high b h = simp (le-ltb b 48 (omega arith), lt-leb b 57 h)

pub digit_bounds : (b : ℕ) → digit b ≡ true → (48 ≤ b) × (b ≤ 57)
unfolding digit
digit_bounds b e = go (ltb b 48) refl e
  where
    go : (t : Bool) → ltb b 48 ≡ t → cond t false (leb b 57) ≡ true → (48 ≤ b) × (b ≤ 57)
    go true h k = let z : ◌≡◌ {A = ℕ} 0 1 = cc in omega arith
    go false h k = (ltb-false b 48 h, leb-true b 57 k)

pub decimal_small : (n : ℕ) → n < 10 → decimal n ≡ (48 + n) ∷ []
unfolding decimal
decimal_small = digits_small 19

-- the last digit, and those before it
pub decimal_step : (n : ℕ) → 10 ≤ n → n < ten most_digits → decimal n ≡ decimal (n / 10) ++ ((48 + n % 10) ∷ [])
unfolding decimal
decimal_step n h k =
    digits_step 19 n h ∙ ap (λ (l : List ℕ). l ++ ((48 + n % 10) ∷ [])) (sym (digits_more 18 (n / 10) (omega arith)))

pub decimal_longer : (n : ℕ) → 10 ≤ n → n < ten most_digits → length (decimal n) ≡ length (decimal (n / 10)) + 1
decimal_longer n h k = ap length (decimal_step n h k) ∙ length-append (decimal (n / 10)) ((48 + n % 10) ∷ [])

-- a number with a digit more at its end
pub decimal_snoc : (n d : ℕ) → 1 ≤ n → 10 * n + d < ten most_digits → d < 10 → decimal (10 * n + d) ≡ decimal n ++ ((48 + d) ∷ [])
decimal_snoc n d h k j =
    let q : (10 * n + d) / 10 ≡ n = omega arith in
    let m : (10 * n + d) % 10 ≡ d = omega arith in
    decimal_step (10 * n + d) (omega arith) k ∙ rw (q, m)

pub decimal_five : (n : ℕ) → n < ten field_digits → length (decimal n) ≤ field_digits
unfolding decimal
decimal_five = digits_long most_digits 4

pub decimal_twenty : (n : ℕ) → n < ten most_digits → length (decimal n) ≤ most_digits
unfolding decimal
decimal_twenty = digits_long most_digits 19

pub decimal_zero : decimal 0 ≡ 48 ∷ []
unfolding decimal digits_of
decimal_zero = refl

-- the number that digits spell, after n
abbrev pub value : ℕ → List ℕ → ℕ
value n [] = n
value n (b ∷ t) = value (10 * n + (b - 48)) t

pub value_ge : (n : ℕ) (t : List ℕ) → n ≤ value n t
value_ge n [] = omega arith
value_ge n (b ∷ t) = omega (arith, value_ge (10 * n + (b - 48)) t)

value_snoc : (n : ℕ) (t : List ℕ) (d : ℕ) → value n (t ++ ((48 + d) ∷ [])) ≡ 10 * value n t + d
value_snoc n [] d = omega arith
value_snoc n (b ∷ t) d = value_snoc (10 * n + (b - 48)) t d

pub data Digits : List ℕ → Type 0 where
  none : Digits []
  next : {b : ℕ} {t : List ℕ} → digit b ≡ true → Digits t → Digits (b ∷ t)

digits_snoc : {t : List ℕ} (d : ℕ) → d < 10 → Digits t → Digits (t ++ ((48 + d) ∷ []))
digits_snoc d h none = next (digit_yes (48 + d) (omega arith) (omega arith)) none
digits_snoc d h (next e ds) = next e (digits_snoc d h ds)

-- the bytes spell n: a first digit that is no zero, and digits after it
pub data Spells (n : ℕ) : List ℕ → Type 0 where
  spells : (b : ℕ) (t : List ℕ) → 49 ≤ b → b ≤ 57 → Digits t → value 0 (b ∷ t) ≡ n → Spells n (b ∷ t)

spells_snoc : (n m : ℕ) {t : List ℕ} (d : ℕ) → d < 10 → 10 * n + d ≡ m → Spells n t → Spells m (t ++ ((48 + d) ∷ []))
spells_snoc n m d h e (spells b t l u ds v) =
    spells b (t ++ ((48 + d) ∷ [])) l u (digits_snoc d h ds) (omega (arith, value_snoc 0 (b ∷ t) d))

spelt_small : (d n : ℕ) → 1 ≤ n → n < 10 → Spells n (digits_of (suc d) n)
spelt_small d n l h = rw (digits_small d n h) (spells (48 + n) [] (omega arith) (omega arith) none (omega arith))

spelt : (d n : ℕ) → 1 ≤ n → n < ten (suc d) → Spells n (digits_of (suc d) n)
spelt ℕ.zero n l h = spelt_small 0 n l (omega arith)
spelt (suc d) n l h =
    ⊎_elim (spelt_small (suc d) n l)
    (λ k. rw (digits_step (suc d) n k)
    (spells_snoc (n / 10) n (n % 10) (omega arith) (omega arith) (spelt d (n / 10) (omega arith) (omega arith))))
    (lt_or_le n 10)

pub decimal_spelt : (n : ℕ) → 1 ≤ n → n < ten most_digits → Spells n (decimal n)
unfolding decimal
decimal_spelt = spelt 19
