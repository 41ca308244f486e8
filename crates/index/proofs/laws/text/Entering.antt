-- Laws of the records that are written into a block, number by number and record by record.
use Prim.Native.Nat.{ℕ, ◌+◌, ◌*◌, ◌<◌, ◌≤◌}
use mathlib.Core.Path.{◌≡◌, sym, ap, ◌∙◌, subst}
use mathlib.Core.Bool.{Bool, true}
use mathlib.Core.List.{List, [], ◌∷◌}
use native.Mathlib.Omega.{arith}
use native.Mathlib.Numerals.{add-one}
use borrow.Author.Count.{below_more}
use borrow.Author.Tests.{lt-ltb}
use lib.Dec.{ltb}
use lib.ListN.{length, drop, get_or}
use lib.Seq.{ext_get_or, drop-cons}
use Rattle.index.specs.declared.Kind.{Kind}
use Rattle.index.specs.Letters.{letter_count}
use Rattle.index.specs.Block.{number, place, key, id}
use Rattle.index.specs.Text.{Entry, counts_at, entry_at, IsEntry, IsSet, Writes}
use Rattle.index.specs.work.Bytes.{Inside, Put}
use Rattle.index.specs.declared.text.reading.Cursor.{Cursor}
use Rattle.index.specs.declared.text.reading.Piece.{Piece}
use Rattle.index.specs.declared.text.reading.Piece.TheVariants.{Number}
use Rattle.index.specs.work.Reading.Parsed.{got}
use Rattle.index.specs.work.Pieces.{SeesEntry, rest}
use Rattle.index.specs.work.Written.{Stands, Entered, entry_of, Filled}
use Rattle.index.proofs.laws.block.Bytes.{number_below, inside_none, inside_then, inside_wide, count_number}
use Rattle.index.proofs.laws.text.TakenApart.{not_got}
use Rattle.index.proofs.laws.text.HandedOn.{NoNumber, is_entry, no_entry}
use Rattle.index.proofs.laws.text.ReadSets.{head_entry}
use Rattle.index.proofs.laws.text.Writes.{counts_long, counts_each}

-- ---- one record

-- A record of a block is e where its numbers are those of e.
entry_by : (b : List ℕ) (i : ℕ) (e : Entry) → length e.counts ≡ letter_count → id b i ≡ e.id
    → ((k : ℕ) → k < letter_count → number b (place i + 4 + 2 * k) ≡ get_or e.counts k 0) → entry_at b i ≡ e
entry_by b i e l n h =
    let c : counts_at b i ≡ e.counts =
    ext_get_or 0 (counts_at b i) e.counts (counts_long b i ∙ sym l)
    (λ k m. let j : k < letter_count = omega (arith, counts_long b i) in counts_each b i k j ∙ count_number b i k j ∙ h k j) in
    λ j. record { id = n j; counts = c j }

-- What was written of it before its counts from k on.
pub record Entering (x i : ℕ) (e : Entry) (k : ℕ) (b b' : List ℕ) : Type 0 where
  pub has_key : key b' i ≡ x
  pub has_id : id b' i ≡ e.id
  pub counted : (l : ℕ) → l < k → number b' (place i + 4 + 2 * l) ≡ get_or e.counts l 0
  pub rest : Inside (place i) (place (i + 1)) b b'

module _ {x i : ℕ} {e : Entry} where
  pub entering_first : {b b₁ b₂ : List ℕ} → Put (place i) x b b₁ → Put (place i + 2) e.id b₁ b₂ → Entering x i e 0 b b₂
  entering_first p q =
      record {
        has_key = number_below q.rest (place i) (omega arith) ∙ p.here;
        has_id = q.here;
        counted = λ l h. absurd (omega arith);
        rest = inside_then (inside_wide (place i) (place (i + 1)) p.rest (omega arith) (omega arith)) q.rest (omega arith) (omega arith);
      }

  pub entering_next : {k : ℕ} {b b₁ b₂ : List ℕ} → Entering x i e k b b₁ → k < letter_count
      → Put (place i + 4 + 2 * k) (get_or e.counts k 0) b₁ b₂ → Entering x i e (k + 1) b b₂
  entering_next {k} s h p =
      record {
        has_key = number_below p.rest (place i) (omega arith) ∙ s.has_key;
        has_id = number_below p.rest (place i + 2) (omega arith) ∙ s.has_id;
        counted =
            below_more _ k
            (λ l g. number_below p.rest (place i + 4 + 2 * l) (omega arith) ∙ s.counted l g) p.here;
        rest = inside_then s.rest p.rest (omega arith) (omega arith);
      }

  pub entering_last : {k : ℕ} {b b' : List ℕ} → length e.counts ≡ letter_count → letter_count ≤ k → Entering x i e k b b'
      → Entered x i e b b'
  entering_last {b' = b'} l h s =
      record {
        stands = record { has_key = s.has_key; is = entry_by b' i e l s.has_id (λ k m. s.counted k (omega arith)) };
        rest = s.rest;
      }

-- ---- the records of a set

stands_below : {x i j hi : ℕ} {e : Entry} {b b' : List ℕ} → Inside (place i) hi b b' → j < i → Stands b x j e → Stands b' x j e
stands_below {j = j} {b = b} {b' = b'} w h s =
    record {
      has_key = number_below w (place j) (omega arith) ∙ s.has_key;
      is =
          entry_by b' j (entry_at b j) (counts_long b j) (number_below w (place j + 2) (omega arith))
          (λ k l. number_below w (place j + 4 + 2 * k) (omega arith) ∙ sym (counts_each b j k l ∙ count_number b j k l))
          ∙ s.is;
    }

pub filled_none : {x i : ℕ} {es : List Entry} {b : List ℕ} → Filled x i es 0 b b
filled_none {i = i} {b = b} = record { stand = λ j h. absurd (omega arith); rest = inside_none (place i) (place (i + 0)) b }

pub filled_more : {x i n : ℕ} {es : List Entry} {b b₁ b₂ : List ℕ} → Filled x i es n b b₁ → Entered x (i + n) (entry_of es n) b₁ b₂
    → Filled x i es (n + 1) b b₂
filled_more {x} {i} {n} {es} f e =
    record {
      stand = below_more _ n (λ j h. stands_below e.rest (omega arith) (f.stand j h)) e.stands;
      rest =
          inside_then (inside_wide (place i) (place (i + (n + 1))) f.rest (omega arith) (omega arith)) e.rest (omega arith)
          (omega arith);
    }

-- ---- the loop that reads them from a text

pub set_tail : {kind : Kind} {e : Entry} {es : List Entry} → IsSet kind (e ∷ es) → IsSet kind es
set_tail (IsSet.one h) = IsSet.empty
set_tail (IsSet.more h l s) = s

-- The first i records are written, and the others are left.
pub record Taking (x first : ℕ) (text : List ℕ) (kind : Kind) (b₀ b : List ℕ) (here i : ℕ) (es : List Entry) : Type 0 where
  pub is_set : IsSet kind (drop i es)
  pub left : drop here text ≡ rest (ltb 0 i) (drop i es)
  pub done : Filled x first es i b₀ b

module _ {x first : ℕ} {text : List ℕ} {kind : Kind} {b₀ : List ℕ} {es : List Entry} where
  pub taking_first : Writes kind es text → Taking x first text kind b₀ b₀ 0 0 es
  unfolding Writes
  taking_first w = record { is_set = w.0; left = sym w.1; done = filled_none }

  module _
      {b : List ℕ}
      {here i : ℕ}
      (t : Taking x first text kind b₀ b here i es)
      (h : i < length es)
      (p : Piece)
      (cs : List ℕ)
      (k : (e : Entry) (fs : List Entry) → IsSet kind (e ∷ fs) → drop here text ≡ rest (ltb 0 i) (e ∷ fs) → SeesEntry text p cs (got e (rest true fs))) where
    split : drop i es ≡ entry_of es i ∷ drop (i + 1) es
    split = rw add-one (drop-cons es i (record { id = 0; counts = [] }) h)

    others : IsSet kind (entry_of es i ∷ drop (i + 1) es)
    others = subst (IsSet kind) split t.is_set

    -- What is read is record i of the set.
    reads : SeesEntry text p cs (got (entry_of es i) (rest true (drop (i + 1) es)))
    reads = k (entry_of es i) (drop (i + 1) es) others (t.left ∙ ap (rest (ltb 0 i)) split)

    pub never_wrong : NoNumber p → ⊥
    never_wrong o = not_got (sym (no_entry text cs p _ o reads).2)

    module _ {n : ℕ} {c : Cursor} (w : p ≡ Number n c) where
      abbrev e : Entry
      e = record { id = n; counts = cs }

      as_read : got (entry_of es i) (rest true (drop (i + 1) es)) ≡ got e (drop c.at text)
      as_read = is_entry text w reads

      same_entry : e ≡ entry_of es i
      same_entry = let a = as_read in cc

      pub taken_entry : IsEntry kind e
      taken_entry = subst (IsEntry kind) (sym same_entry) (head_entry others)

      pub taking_next : {b' : List ℕ} → Entered x (first + i) e b b' → Taking x first text kind b₀ b' c.at (i + 1) es
      taking_next {b'} p =
          let a = as_read in
          let l : drop c.at text ≡ rest true (drop (i + 1) es) = cc in
          record {
            is_set = set_tail others;
            left = l ∙ ap (λ (c : Bool). rest c (drop (i + 1) es)) (sym (lt-ltb 0 (i + 1) (omega arith)));
            done = filled_more t.done (subst (λ (f : Entry). Entered x (first + i) f b b') same_entry p);
          }
