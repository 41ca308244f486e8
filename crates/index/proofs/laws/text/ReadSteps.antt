-- Steps of the readings at a place of a text.
use Prim.Native.Nat.{ℕ, suc, ◌+◌, ◌-◌, ◌*◌, ◌<◌, ◌≤◌}
use mathlib.Core.Path.{◌≡◌, refl, sym, ap, ◌∙◌}
use mathlib.Core.Bool.{Bool, true, false, cond, ◌&&◌}
use mathlib.Core.List.{List, [], ◌∷◌, ◌++◌, append_assoc, append-nil}
use lib.ListN.{length, take, drop, get_or, set, drop_of_length-le}
use lib.Seq.{drop-cons, take-suc-set, take_all}
use Rattle.std.specs.Prelude.{Some, None}
use Rattle.index.specs.declared.Kind.{Kind}
use Rattle.index.specs.Letters.{letter_count, letters, may_have}
use lib.Dec.{leb}
use native.Mathlib.Numerals.{add-one}
use borrow.Author.Tests.{le-leb, lt-leb, eq-eqb, ne_eqb}
use Rattle.index.specs.work.Reading.{Parsed, and_then, digit, reaches, begins, ends, read_digits, read_number, read_count, read_letter, read_counts, read_mark}
use native.Mathlib.Omega.{arith}
use Rattle.index.specs.work.Reading.Parsed.{got, wrong}
use Rattle.index.specs.Block.{greatest_count}

pub and_false : (a : Bool) → (a && false) ≡ false
and_false true = refl
and_false false = refl

-- ---- what begins a number
module _ (least most d lo hi : ℕ) where
  pub reaches_high : most < lo → reaches least most d lo hi ≡ false
  unfolding reaches
  reaches_high h = go d
    where
      go : (d : ℕ) → reaches least most d lo hi ≡ false
      go ℕ.zero = simp (lt-leb lo most h)
      go (suc d) = simp (lt-leb lo most h)

  pub reaches_now : lo ≤ most → least ≤ hi → reaches least most d lo hi ≡ true
  unfolding reaches
  reaches_now h k = go d
    where
      go : (d : ℕ) → reaches least most d lo hi ≡ true
      go ℕ.zero = simp (le-leb lo most h, le-leb least hi k)
      go (suc d) = simp (le-leb lo most h, le-leb least hi k)

  pub reaches_last : hi < least → d ≡ 0 → reaches least most d lo hi ≡ false
  unfolding reaches
  reaches_last k e = ap (λ (d : ℕ). reaches least most d lo hi) e ∙ simp (lt-leb least hi k, and_false (leb lo most))

  pub reaches_on : lo ≤ most → hi < least → (d ≡ 0 → ⊥)
      → reaches least most d lo hi ≡ reaches least most (d - 1) (10 * lo) (10 * hi + 9)
  unfolding reaches
  reaches_on h k n =
      let s : d ≡ suc (d - 1) = omega arith in
      ap (λ (d : ℕ). reaches least most d lo hi) s ∙ simp (le-leb lo most h, lt-leb least hi k)

module _ (t : List ℕ) (at : ℕ) where
  -- a byte stands there
  pub front : at < length t → drop at t ≡ get_or t at 0 ∷ drop (at + 1) t
  front h = rw add-one (drop-cons t at 0 h)

  -- the text has ended
  pub end : length t ≤ at → drop at t ≡ []
  end h = drop_of_length-le t h

  -- ---- digits
  module _ (least most n : ℕ) where
    pub digits_end : length t ≤ at → read_digits least most n (drop at t) ≡ ends least n (drop at t)
    unfolding read_digits
    digits_end h = rw (end h)

    pub digits_other : at < length t → digit (get_or t at 0) ≡ false → read_digits least most n (drop at t) ≡ ends least n (drop at t)
    unfolding read_digits
    digits_other h d = rw (front h) (simp d)

    pub digits_wrong : at < length t → digit (get_or t at 0) ≡ true → begins least most (10 * n + (get_or t at 0 - 48)) ≡ false
        → read_digits least most n (drop at t) ≡ wrong (drop at t)
    unfolding read_digits
    digits_wrong h d k = rw (front h) (simp (d, k))

    pub digits_next : at < length t → digit (get_or t at 0) ≡ true → begins least most (10 * n + (get_or t at 0 - 48)) ≡ true
        → read_digits least most n (drop at t) ≡ read_digits least most (10 * n + (get_or t at 0 - 48)) (drop (at + 1) t)
    unfolding read_digits
    digits_next h d k = rw (front h) (simp (d, k))

  -- ---- a number
  module _ (least most : ℕ) where
    pub number_end : length t ≤ at → read_number least most (drop at t) ≡ wrong (drop at t)
    unfolding read_number
    number_end h = rw (end h)

    pub number_zero : at < length t → get_or t at 0 ≡ 48 → least ≡ 0 → read_number least most (drop at t) ≡ got 0 (drop (at + 1) t)
    unfolding read_number
    number_zero h e z = rw (front h) (simp (eq-eqb _ _ e, eq-eqb _ _ z))

    pub number_no_zero : at < length t → get_or t at 0 ≡ 48 → (least ≡ 0 → ⊥) → read_number least most (drop at t) ≡ wrong (drop at t)
    unfolding read_number
    number_no_zero h e z = rw (front h) (simp (eq-eqb _ _ e, ne_eqb _ _ z))

    pub number_digit : at < length t → (get_or t at 0 ≡ 48 → ⊥) → digit (get_or t at 0) ≡ true
        → read_number least most (drop at t) ≡ read_digits least most 0 (drop at t)
    unfolding read_number
    number_digit h e d = rw (front h) (simp (ne_eqb _ _ e, d))

    pub number_other : at < length t → (get_or t at 0 ≡ 48 → ⊥) → digit (get_or t at 0) ≡ false
        → read_number least most (drop at t) ≡ wrong (drop at t)
    unfolding read_number
    number_other h e d = rw (front h) (simp (ne_eqb _ _ e, d))

  -- ---- a count
  pub count_end : length t ≤ at → read_count (drop at t) ≡ got 1 (drop at t)
  unfolding read_count
  count_end h = rw (end h)

  pub count_none : at < length t → digit (get_or t at 0) ≡ false → read_count (drop at t) ≡ got 1 (drop at t)
  unfolding read_count
  count_none h d = rw (front h) (simp d)

  pub count_number : at < length t → digit (get_or t at 0) ≡ true → read_count (drop at t) ≡ read_number 2 greatest_count (drop at t)
  unfolding read_count
  count_number h d = rw (front h) (simp d)

  -- ---- a letter
  module _ (may : Bool) (l : ℕ) where
    pub letter_end : length t ≤ at → read_letter may l (drop at t) ≡ got 0 (drop at t)
    unfolding read_letter
    letter_end h = rw (end h)

    -- The byte there is that of the letter, if it may stand there.
    pub letter_byte : at < length t → Some (get_or t at 0) ≡ cond may (Some l) None → read_letter may l (drop at t) ≡ read_count (drop (at + 1) t)
    unfolding read_letter
    letter_byte h e = go may e
      where
        go : (m : Bool) → Some (get_or t at 0) ≡ cond m (Some l) None → read_letter m l (drop at t) ≡ read_count (drop (at + 1) t)
        go true e = let same : get_or t at 0 ≡ l = cc in rw (front h) (simp (eq-eqb _ _ same))
        go false e = cc

    pub letter_other : at < length t → (Some (get_or t at 0) ≡ cond may (Some l) None → ⊥) → read_letter may l (drop at t) ≡ got 0 (drop at t)
    unfolding read_letter
    letter_other h n = go may n
      where
        go : (m : Bool) → (Some (get_or t at 0) ≡ cond m (Some l) None → ⊥) → read_letter m l (drop at t) ≡ got 0 (drop at t)
        go true n = rw (front h) (simp (ne_eqb _ _ (λ e. n (ap Some e))))
        go false n = rw (front h)

  -- ---- `;`
  pub mark_end : length t ≤ at → read_mark (drop at t) ≡ wrong (drop at t)
  unfolding read_mark
  mark_end h = rw (end h)

  pub mark_there : at < length t → get_or t at 0 ≡ 59 → read_mark (drop at t) ≡ got 59 (drop (at + 1) t)
  unfolding read_mark
  mark_there h e = rw (front h) (simp (eq-eqb _ _ e) (ap (λ (b : ℕ). got b (drop (at + 1) t)) e))

  pub mark_none : at < length t → (get_or t at 0 ≡ 59 → ⊥) → read_mark (drop at t) ≡ wrong (drop at t)
  unfolding read_mark
  mark_none h e = rw (front h) (simp (ne_eqb _ _ e))

-- ---- the counts of a record
letters_from : (k : ℕ) → k < letter_count → drop k letters ≡ get_or letters k 0 ∷ drop (k + 1) letters
unfolding letters
letters_from k h = front letters k h

module _ (kind : Kind) (k : ℕ) (h : k < letter_count) (t : List ℕ) where
  counts_wrong : (s : List ℕ) → read_letter (may_have kind k) (get_or letters k 0) t ≡ wrong s → read_counts kind k (drop k letters) t ≡ wrong s
  unfolding read_counts
  counts_wrong s e = rw (letters_from k h) (simp e)

  counts_next : (n : ℕ) (r : List ℕ) → read_letter (may_have kind k) (get_or letters k 0) t ≡ got n r
      → read_counts kind k (drop k letters) t
      ≡ and_then (read_counts kind (k + 1) (drop (k + 1) letters) r) (λ cs s. got (n ∷ cs) s)
  unfolding read_counts
  counts_next n r e = rw (letters_from k h) (simp e)

-- what is read from letter k on, after the counts in out
abbrev pub after : List ℕ → ℕ → Parsed (List ℕ) → Parsed (List ℕ)
after out k x = and_then x (λ cs r. got (take k out ++ cs) r)

pub after_none : (out : List ℕ) (x : Parsed (List ℕ)) → x ≡ after out 0 x
after_none out (got cs r) = refl
after_none out (wrong s) = refl

after_next : (out : List ℕ) (k n : ℕ) (x : Parsed (List ℕ)) → k < length out
    → after out k (and_then x (λ cs s. got (n ∷ cs) s)) ≡ after (set out k n) (k + 1) x
after_next out k n (got cs r) h =
    ap (λ (l : List ℕ). got l r)
    (sym (append_assoc (take k out) (n ∷ []) cs)
    ∙ ap (λ (l : List ℕ). l ++ cs) (sym (take-suc-set out k n h)) ∙ ap (λ (j : ℕ). take j (set out k n) ++ cs) (sym (add-one k)))
after_next out k n (wrong s) h = refl

module _ (out : List ℕ) (kind : Kind) (k : ℕ) (h : k < letter_count) (t : List ℕ) where
  pub after_wrong : (s : List ℕ) → read_letter (may_have kind k) (get_or letters k 0) t ≡ wrong s
      → after out k (read_counts kind k (drop k letters) t) ≡ wrong s
  after_wrong s e = ap (after out k) (counts_wrong kind k h t s e)

  pub after_more : (n : ℕ) (r : List ℕ) → length out ≡ letter_count → read_letter (may_have kind k) (get_or letters k 0) t ≡ got n r
      → after out k (read_counts kind k (drop k letters) t)
      ≡ after (set out k n) (k + 1) (read_counts kind (k + 1) (drop (k + 1) letters) r)
  after_more n r l e =
      ap (after out k) (counts_next kind k h t n r e) ∙ after_next out k n (read_counts kind (k + 1) (drop (k + 1) letters) r) (omega arith)

pub after_all : (out : List ℕ) (kind : Kind) (k : ℕ) (t : List ℕ) → length out ≡ letter_count → k ≡ letter_count
    → after out k (read_counts kind k (drop k letters) t) ≡ got out t
unfolding read_counts letters
after_all out kind k t l e =
    rw e (ap (λ (x : List ℕ). got x t) (append-nil (take letter_count out) ∙ take_all letter_count out (omega arith)))
