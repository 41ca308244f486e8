-- Lines, piece by piece as they are written.
use Prim.Native.Nat.{ℕ, zero, suc, ◌+◌, ◌-◌, ◌<◌, ◌≤◌}
use mathlib.Core.Path.{◌≡◌, refl, sym, ap, ◌∙◌}
use mathlib.Core.List.{List, [], ◌∷◌, ◌++◌, append_assoc}
use lib.ListN.{length, take, drop, length-append}
use lib.Seq.{sets-eq, take_at, length-sets}
use native.Mathlib.Omega.{arith}
use Rattle.index.specs.declared.Kind.{Kind}
use Rattle.index.specs.Letters.{letters}
use Rattle.index.specs.Text.{Entry, decimal, pieces_of, entry_text, text_of, set_of}
use Rattle.index.specs.work.Written.{Puts}
use Rattle.standing.specs.Printed.{message_word, refused_word, newline, refusal_line, line_of, set_line, set_lines, line_with}
use Rattle.standing.specs.Promised.{Front}

-- What is written from the start on stands at the front.
pub puts_front : {t out out' : List ℕ} {n : ℕ} → Puts 0 t out n out' → length t ≤ length out → Front t out' n
puts_front {t} {out} {out'} {n} p h =
    let e : n ≡ length t = omega (arith, p.ends) in
    record {
      long = e;
      fits = omega (arith, ap length p.buffer ∙ length-sets out 0 t);
      bytes = ap (take n) (p.buffer ∙ sets-eq t out 0 (omega arith)) ∙ take_at t (drop (0 + length t) out) n (sym e);
    }

-- ---- the line of a refusal

pub refusal_none : (n r : ℕ) → r ≡ 0 → [] ≡ refusal_line n r
unfolding refusal_line
refusal_none n r e = rw e

pub refusal_some : (n r : ℕ) → (r ≡ 0 → ⊥) → (message_word ++ decimal n) ++ ((refused_word ++ decimal r) ++ newline) ≡ refusal_line n r
unfolding refusal_line
refusal_some n zero h = absurd (h refl)
refusal_some n (suc r) h = simp append_assoc

-- ---- the line of a set

-- The text of a set that is not empty is not empty.
text_long : (e : Entry) (es : List Entry) → 0 < length (text_of (e ∷ es))
unfolding text_of entry_text
text_long e [] = omega (arith, length-append (decimal e.id) (59 ∷ pieces_of letters e.counts))
text_long e (f ∷ es) = omega (arith, length-append (entry_text e) (59 ∷ text_of (f ∷ es)))

line_none : (kind : Kind) (x : ℕ) (es : List Entry) → length (text_of es) ≡ 0 → [] ≡ line_of kind x es
unfolding line_of
line_none kind x [] h = refl
line_none kind x (e ∷ es) h = absurd (omega (arith, text_long e es))

line_some : (kind : Kind) (x : ℕ) (es : List Entry) → (length (text_of es) ≡ 0 → ⊥) → line_with kind x (text_of es) ≡ line_of kind x es
unfolding line_of text_of
line_some kind x [] h = absurd (h refl)
line_some kind x (e ∷ es) h = refl

-- From the text of the set.
module _ (b : List ℕ) (kind : Kind) (x : ℕ) {text : List ℕ} {n : ℕ} (f : Front (text_of (set_of b kind x)) text n) where
  pub set_none : n ≡ 0 → [] ≡ set_line b kind x
  unfolding set_line
  set_none e = line_none kind x (set_of b kind x) (omega (arith, f.long))

  pub set_some : (n ≡ 0 → ⊥) → line_with kind x (take n text) ≡ set_line b kind x
  unfolding set_line
  set_some h = ap (line_with kind x) f.bytes ∙ line_some kind x (set_of b kind x) (λ e. h (f.long ∙ e))

-- ---- the lines of the sets of a kind, of the keys from x up to end

module _ (b : List ℕ) (kind : Kind) (x end : ℕ) where
  pub lines_next : x < end → set_lines b kind x (end - x) ≡ set_line b kind x ++ set_lines b kind (x + 1) (end - (x + 1))
  unfolding set_lines
  lines_next h = let e : end - x ≡ suc (end - (x + 1)) = omega arith in rw e

  pub lines_long : x < end
      → length (set_lines b kind x (end - x)) ≡ length (set_line b kind x) + length (set_lines b kind (x + 1) (end - (x + 1)))
  lines_long h = ap length (lines_next h) ∙ length-append (set_line b kind x) (set_lines b kind (x + 1) (end - (x + 1)))

  pub lines_end : end ≤ x → set_lines b kind x (end - x) ≡ []
  unfolding set_lines
  lines_end h = let e : end - x ≡ 0 = omega arith in rw e
