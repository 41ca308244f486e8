-- A set takes the place of the old one: a splice whose new records are filled in.
use Prim.Native.Nat.{ℕ, suc, ◌+◌, ◌-◌, ◌*◌, ◌<◌, ◌≤◌}
use mathlib.Core.Path.{◌≡◌, refl, sym, ap, ◌∙◌}
use mathlib.Core.List.{List, [], ◌∷◌}
use mathlib.Core.Logic.{⊎_elim}
use native.Mathlib.Omega.{arith}
use lib.ListN.{length, get_or}
use Rattle.index.specs.declared.Kind.{Kind}
use Rattle.index.specs.Block.{name_count, IsName, id, count_at, count_from, Good, count}
use Rattle.index.specs.Text.{Entry, set_from, IsEntry, IsSet, count_in, Replaced}
use Rattle.index.specs.work.Places.{spot, At}
use Rattle.index.specs.work.Checks.{Record}
use Rattle.index.specs.work.Bytes.{Spliced, Fits}
use Rattle.index.specs.work.Edits.{Lowest}
use Rattle.index.specs.work.Written.{Stands, entry_of, Filled}
use Rattle.index.proofs.laws.Range.{lt_or_le}
use Rattle.index.proofs.laws.block.Records.{one_kind, found, not_found, once, where_is, count_at_lem, count_none}
use Rattle.index.proofs.laws.block.Splice.{spliced_good, spliced_of, spliced_stays, spliced_gone}
use Rattle.index.proofs.laws.block.SpliceThen.{spliced_then}
use Rattle.index.proofs.laws.text.ReadSets.{head_entry}
use Rattle.index.proofs.laws.text.Entering.{set_tail}
use Rattle.index.proofs.laws.text.SetRange.{bounds, key_below, key_within, key_above, set_here}
use Rattle.index.proofs.laws.text.OneSet.{some_letter}
use Rattle.index.proofs.laws.text.SetCounts.{counts_any, set_count}

-- ---- the records of a set

pub set_entry : {kind : Kind} (es : List Entry) (j : ℕ) → IsSet kind es → j < length es → IsEntry kind (entry_of es j)
set_entry [] j s h = absurd (omega arith)
set_entry (e ∷ es) ℕ.zero s h = head_entry s
set_entry (e ∷ es) (suc j) s h = set_entry es j (set_tail s) (omega arith)

set_rises : {kind : Kind} (es : List Entry) (j : ℕ) → IsSet kind es → suc j < length es → (entry_of es j).id < (entry_of es (suc j)).id
set_rises (e ∷ f ∷ es) ℕ.zero (IsSet.more a l s) h = l
set_rises (e ∷ f ∷ es) (suc j) (IsSet.more a l s) h = set_rises (f ∷ es) j s (omega arith)
set_rises (e ∷ []) j s h = absurd (omega arith)
set_rises [] j s h = absurd (omega arith)

-- ---- the records that stand in a block

module _ {b : List ℕ} {x i : ℕ} {e : Entry} (s : Stands b x i e) where
  stands_id : id b i ≡ e.id
  stands_id = ap (λ (f : Entry). f.id) s.is

  stands_count : (k : ℕ) → count_at b i k ≡ get_or e.counts k 0
  stands_count k = sym (counts_any b i k) ∙ ap (λ (f : Entry). get_or f.counts k 0) s.is

  stands_record : {kind : Kind} → IsName x → IsEntry kind e → Record b kind i
  stands_record n h =
      let (k, l, c) = some_letter h in
      record {
        key_below = omega (arith, s.has_key);
        id_below = omega (arith, stands_id, h.named);
        counted = (k, l, omega (arith, stands_count k));
        allowed = λ k l. stands_count k ∙ h.allowed k l;
      }

stand_set : (b : List ℕ) (x i : ℕ) (es : List Entry) → ((j : ℕ) → j < length es → Stands b x (i + j) (entry_of es j))
    → set_from b x i (length es) ≡ es
stand_set b x i [] s = unfold set_from in refl
stand_set b x i (e ∷ es) s =
    let z : i + 0 ≡ i = omega arith in
    let h : Stands b x i e = rw z at (s 0 (omega arith)) in
    set_here b x i (length es) h.has_key
    ∙ ap (λ (f : Entry). f ∷ set_from b x (i + 1) (length es)) h.is
    ∙ ap (λ (fs : List Entry). e ∷ fs)
    (stand_set b x (i + 1) es
    (λ j l. let w : i + suc j ≡ i + 1 + j = omega arith in rw w at (s (suc j) (omega arith))))

-- ---- the set in its place

module _
    {b b₁ b' : List ℕ}
    (g : Good b)
    (kind : Kind)
    (x lo hi : ℕ)
    (p : Lowest b kind (name_count * x) lo)
    (q : Lowest b kind (name_count * (x + 1)) hi)
    (es : List Entry)
    (is_set : IsSet kind es)
    (named : IsName x)
    (s : Spliced kind lo (hi - lo) (length es) b b₁)
    (f : Filled x lo es (length es) b₁ b')
    (bytes : (t : ℕ) → get_or b' t 0 < 256) where
  spliced : Spliced kind lo (hi - lo) (length es) b b'
  spliced = spliced_then s f.rest

  -- A record that came is the one of the set.
  came : (i : ℕ) → lo ≤ i → i < lo + length es → Stands b' x i (entry_of es (i - lo))
  came i l h = let z : lo + (i - lo) ≡ i = omega arith in rw z at (f.stand (i - lo) (omega arith))

  came_id : (i : ℕ) → lo ≤ i → i < lo + length es → id b' i < name_count
  came_id i l h = omega (arith, stands_id (came i l h), (set_entry es (i - lo) is_set (omega arith)).named)

  came_spot : (i : ℕ) → lo ≤ i → i < lo + length es → (name_count * x ≤ spot b' i) × (spot b' i < name_count * (x + 1))
  came_spot i l h = omega (arith, (came i l h).has_key, came_id i l h)

  fits : Fits kind lo (hi - lo) (length es) b b'
  fits =
      let o = bounds g kind x lo hi p q in
      record {
        low = p.low;
        high = omega (arith, q.high);
        each = λ i l h. stands_record (came i l h) named (set_entry es (i - lo) is_set (omega arith));
        rising =
            λ i l h.
            let z : i + 1 - lo ≡ suc (i - lo) = omega arith in
            let r = set_rises es (i - lo) is_set (omega arith) in
            let v = came (i + 1) (omega arith) h in
            let w = came i l (omega arith) in
            omega (arith, v.has_key, w.has_key, stands_id w, stands_id v, ap (λ (m : ℕ). (entry_of es m).id) z);
        lower = λ i i' m h l k. omega (arith, p.below i m h, came_spot i' l k);
        upper = λ i i' m h l k. omega (arith, q.above i m (omega arith), came_spot i' l k);
      }

  good : Good b'
  good = spliced_good g spliced fits bytes

  abbrev None : ℕ → Type 0
  None y = (i : ℕ) → lo ≤ i → i < lo + length es → At b' kind x y i → ⊥

  -- An old record of the key was one of the old set.
  old : (y i : ℕ) → At b kind x y i → (lo ≤ i) × (i < lo + (hi - lo))
  old y i a =
      ⊎_elim (λ l. absurd (omega (arith, key_below g kind x lo hi p q i a.of l, a.has_key)))
      (λ l.
      ⊎_elim (λ h. omega arith) (λ h. absurd (omega (arith, key_above g kind x lo hi p q i a.of h, a.has_key)))
      (lt_or_le i hi))
      (lt_or_le i lo)

  -- No record came for the id.
  gone : (y k : ℕ) → None y → count b' kind x y k ≡ 0
  gone y k none =
      ⊎_elim
      (λ a.
      let o = old y a.0 a.1 in
      spliced_gone g spliced fits bytes kind x y k a.0 o.0 o.1 a.1 none)
      (λ never.
      spliced_stays g spliced fits bytes kind x y k (λ i l h a. never i a) none ∙ count_none b kind x y k never)
      (where_is b x y kind)

  missing : (y k : ℕ) → None y → count_from b' x y k lo (length es) ≡ 0
  missing y k none =
      not_found b' x y k lo (length es)
      (λ m l h a c.
      none m l h (record { of = spliced_of g spliced fits bytes m l h; has_key = a; has_id = c }))

  none : (y k : ℕ) → None y → count b' kind x y k ≡ count_from b' x y k lo (length es)
  none y k n = gone y k n ∙ sym (missing y k n)

  new : (y k : ℕ) → count b' kind x y k ≡ count_from b' x y k lo (length es)
  new y k = ⊎_elim (λ a. there a.0 a.1) (λ never. none y k (λ i l h a. never i a)) (where_is b' x y kind)
    where
      there : (i : ℕ) → At b' kind x y i → count b' kind x y k ≡ count_from b' x y k lo (length es)
      there i a =
          let same : (m : ℕ) → At b' kind x y m → m ≡ i =
          λ m c. once b' good kind m i c.of a.of (omega (arith, c.has_key, c.has_id, a.has_key, a.has_id)) in
          ⊎_elim (λ h. none y k (λ m l u c. omega (arith, same m c)))
          (λ l.
          ⊎_elim
          (λ h.
          count_at_lem good kind x y i k a
          ∙ sym (found b' x y k lo (length es) i l h a.has_key a.has_id
          (λ m v w c d. same m (record { of = spliced_of g spliced fits bytes m v w; has_key = c; has_id = d }))))
          (λ h. none y k (λ m l u c. omega (arith, same m c)))
          (lt_or_le i (lo + length es)))
          (lt_or_le i lo)

  whole : Replaced kind x es b b'
  whole =
      record {
        good = good;
        same_length = spliced.same_length;
        set =
            λ y k l.
            new y k ∙ sym (set_count b' x y k lo (length es)) ∙ ap (λ (fs : List Entry). count_in fs y k) (stand_set b' x lo es f.stand);
        other_keys =
            λ x' y k ne l.
            spliced_stays g spliced fits bytes kind x' y k
            (λ i m h a. ne (sym a.has_key ∙ key_within g kind x lo hi p q i m (omega (arith, bounds g kind x lo hi p q))))
            (λ i m h a. ne (sym a.has_key ∙ (came i m h).has_key));
        other_kinds =
            λ K x' y k ne l.
            spliced_stays g spliced fits bytes K x' y k
            (λ i m h a. ne (one_kind K kind b i a.of (omega (arith, p.low, q.high, bounds g kind x lo hi p q))))
            (λ i m h a. ne (one_kind K kind b' i a.of (spliced_of g spliced fits bytes i m h)));
      }

pub replaced : {b b₁ b' : List ℕ} → Good b → (kind : Kind) (x lo hi : ℕ) → Lowest b kind (name_count * x) lo → Lowest b kind (name_count * (x + 1)) hi
    → (es : List Entry) → IsSet kind es → IsName x → (n : ℕ) → length es ≡ n → Spliced kind lo (hi - lo) n b b₁ → Filled x lo es n b₁ b'
    → ((t : ℕ) → get_or b' t 0 < 256) → Replaced kind x es b b'
replaced {b₁ = b₁} g kind x lo hi p q es i m n e s f = whole {b₁ = b₁} g kind x lo hi p q es i m (rw e s) (rw e f)
