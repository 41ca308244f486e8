-- The loop that reads a text record by record.
use Prim.Native.Nat.{ℕ, suc, ◌+◌, ◌-◌, ◌<◌, ◌≤◌}
use mathlib.Core.Path.{◌≡◌, refl, sym, ap, ◌∙◌, subst}
use mathlib.Core.Bool.{Bool, true, false, cond, ◌&&◌}
use mathlib.Core.List.{List, [], ◌∷◌, ◌++◌, append_assoc}
use lib.ListN.{length, drop, length-append, length-drop, drop_of_length-le}
use lib.Dec.{eqb, ltb}
use native.Mathlib.Omega.{arith}
use borrow.Author.Tests.{lt-ltb, le-ltb}
use Rattle.index.specs.declared.Kind.{Kind}
use Rattle.index.specs.Text.{Entry, entry_text, IsSet, Writes}
use Rattle.std.specs.Prelude.{Err}
use Rattle.index.specs.work.Pieces.{Scanned, more, rest}
use Rattle.index.proofs.laws.text.SetText.{rest_next}
use Rattle.index.specs.work.Reading.{Parsed, and_then, read_mark, read_record, read_more, read_records, parse}
use Rattle.index.specs.work.Reading.Parsed.{got, wrong}
use Rattle.index.proofs.laws.text.TakenApart.{not_got}
use Rattle.index.proofs.laws.text.Decimal.{first}
use Rattle.index.proofs.laws.text.ReadSets.{record_complete, long_entry, parse_some, head_entry}
use Rattle.index.proofs.laws.text.SetReader.{record_sound, mark_sound, parse_sound}
use Rattle.index.proofs.laws.text.TextOnce.{parse_wrong}
use Rattle.index.proofs.laws.text.Placing.{wrong_place}
use Rattle.index.proofs.laws.text.ReadSteps.{and_false}
use Rattle.index.specs.Block.{greatest_name, name_count}

-- ---- after a record
more_wrong : (e : Entry) (r : List ℕ) (rest : List ℕ → Parsed (List Entry)) {s : List ℕ} → 0 < length r → read_mark r ≡ wrong s
    → read_more e r rest ≡ wrong r
unfolding read_more read_mark
more_wrong e [] rest h m = absurd (omega arith)
more_wrong e (b ∷ r) rest h m = go (eqb b 59) refl
  where
    go : (t : Bool) → eqb b 59 ≡ t → cond (ltb e.id greatest_name && eqb b 59) (and_then (rest r) (λ es s. got (e ∷ es) s)) (wrong (b ∷ r)) ≡ wrong (b ∷ r)
    go true q = absurd (not_got {a = b} {r = r} (sym m ∙ simp q))
    go false q = simp (q, and_false (ltb e.id greatest_name))

more_full : (e : Entry) (r : List ℕ) (rest : List ℕ → Parsed (List Entry)) → 0 < length r → greatest_name ≤ e.id
    → read_more e r rest ≡ wrong r
unfolding read_more
more_full e [] rest h m = absurd (omega arith)
more_full e (b ∷ r) rest h m = simp (le-ltb e.id greatest_name m)

more_next : (e : Entry) (r : List ℕ) (rest : List ℕ → Parsed (List Entry)) {m : ℕ} {s : List ℕ} → e.id < greatest_name → read_mark r ≡ got m s
    → read_more e r rest ≡ and_then (rest s) (λ es u. got (e ∷ es) u)
unfolding read_more
more_next e r rest {m} {s} l h = rw (mark_sound r h) (simp (lt-ltb e.id greatest_name l))

records_step : (kind : Kind) (least : ℕ) (t : List ℕ) (g f : ℕ) → g ≡ suc f → (e : Entry) (r : List ℕ) → read_record kind least t ≡ got e r
    → read_records g kind least t ≡ read_more e r (λ s. read_records f kind (e.id + 1) s)
unfolding read_records
records_step kind least t g f q e r h = ap (λ (x : ℕ). read_records x kind least t) q ∙ simp h

-- ---- what is read, after the records that were read before
abbrev joined : List Entry → Parsed (List Entry) → Parsed (List Entry)
joined es x = and_then x (λ fs r. got (es ++ fs) r)

joined_none : (x : Parsed (List Entry)) → x ≡ joined [] x
joined_none (got es r) = refl
joined_none (wrong s) = refl

joined_more : (es : List Entry) (e : Entry) (x : Parsed (List Entry))
    → joined es (and_then x (λ fs r. got (e ∷ fs) r)) ≡ joined (es ++ (e ∷ [])) x
joined_more es e (got fs r) = ap (λ (l : List Entry). got l r) (sym (append_assoc es (e ∷ []) fs))
joined_more es e (wrong s) = refl

-- The text is of no set, and n is its place.
abbrev pub Refused : Kind → List ℕ → ℕ → Type 0
Refused kind text n = Scanned kind text (Err n)

refused_at : (kind : Kind) (text : List ℕ) {s : List ℕ} → parse kind text ≡ wrong s → Refused kind text (length text - length s)
refused_at kind text e = (parse_wrong kind text e, wrong_place kind text e)

-- What holds as a record is to be read at a place: n records were read before it.
pub record Turn (text : List ℕ) (kind : Kind) (at least n : ℕ) : Type 0 where
  pub fuel : ℕ
  pub es : List Entry
  pub size : length es ≡ n
  pub small : least < name_count
  pub enough : name_count ≤ fuel + least
  pub says : parse kind text ≡ joined es (read_records fuel kind least (drop at text))
  pub room : n + (length text - at) ≤ length text

pub no_text : (text : List ℕ) (kind : Kind) → length text ≡ 0 → (es : List Entry) × Writes kind es text × (length es ≡ 0)
unfolding parse
no_text [] kind h = ([], parse_sound kind [] refl, refl)
no_text (b ∷ t) kind h = absurd (omega arith)

module _ (text : List ℕ) (kind : Kind) where
  pub turn_first : 0 < length text → Turn text kind 0 0 0
  turn_first h =
      record {
        fuel = name_count;
        es = [];
        size = refl;
        small = omega arith;
        enough = omega arith;
        says = parse_some kind text h ∙ joined_none (read_records name_count kind 0 text);
        room = omega arith;
      }

  module _ (at least n : ℕ) (t : Turn text kind at least n) where
    -- the fuel that is left
    left : (f : ℕ) × (t.fuel ≡ suc f)
    left = go t.fuel refl
      where
        go : (g : ℕ) → t.fuel ≡ g → (f : ℕ) × (t.fuel ≡ suc f)
        go ℕ.zero q = absurd (omega (arith, t.small, t.enough))
        go (suc f) q = (f, q)

    records_wrong : (g f : ℕ) → g ≡ suc f → (s : List ℕ) → read_record kind least (drop at text) ≡ wrong s
        → read_records g kind least (drop at text) ≡ wrong s
    unfolding read_records
    records_wrong g f q s e = ap (λ (x : ℕ). read_records x kind least (drop at text)) q ∙ simp e

    pub turn_wrong : (s : List ℕ) → read_record kind least (drop at text) ≡ wrong s → Refused kind text (length text - length s)
    turn_wrong s e = refused_at kind text (t.says ∙ ap (joined t.es) (records_wrong t.fuel left.0 left.1 s e))

    module _ (e : Entry) (at' : ℕ) (h : read_record kind least (drop at text) ≡ got e (drop at' text)) where
      pub shorter : length text - at' < length text - at
      shorter =
          let (u, q, w) = record_sound kind least (omega (arith, t.small)) (drop at text) h in
          let l : length (drop at text) ≡ length u + length (drop at' text) = ap length q ∙ length-append u (drop at' text) in
          omega (arith, ap length w.text, long_entry e, length-drop at text, length-drop at' text)

      step : parse kind text
          ≡ joined t.es (read_more e (drop at' text) (λ s. read_records left.0 kind (e.id + 1) s))
      step = t.says ∙ ap (joined t.es) (records_step kind least (drop at text) t.fuel left.0 left.1 e _ h)

      pub turn_last : length text ≤ at' → (es : List Entry) × Writes kind es text × (length es ≡ n + 1)
      unfolding read_more
      turn_last k =
          let p : parse kind text ≡ got (t.es ++ (e ∷ [])) [] = step ∙ simp (drop_of_length-le text k) in
          (t.es ++ (e ∷ []), parse_sound kind text p, omega (arith, length-append t.es (e ∷ []), t.size))

      -- no record can follow: the place is after this one
      stop : at' < length text → read_more e (drop at' text) (λ s. read_records left.0 kind (e.id + 1) s) ≡ wrong (drop at' text)
          → Refused kind text at'
      stop k q =
          let z : length text - length (drop at' text) ≡ at' = omega (arith, length-drop at' text) in
          subst (Refused kind text) z (refused_at kind text (step ∙ ap (joined t.es) q))

      pub turn_no_mark : (s : List ℕ) → at' < length text → read_mark (drop at' text) ≡ wrong s → Refused kind text at'
      turn_no_mark s k m = stop k (more_wrong e (drop at' text) _ (omega (arith, length-drop at' text)) m)

      pub turn_full : at' < length text → e.id ≡ greatest_name → Refused kind text at'
      turn_full k m = stop k (more_full e (drop at' text) _ (omega (arith, length-drop at' text)) (omega arith))

      pub turn_next : (m at'' : ℕ) → (e.id ≡ greatest_name → ⊥) → read_mark (drop at' text) ≡ got m (drop at'' text)
          → Turn text kind at'' (e.id + 1) (n + 1) × (length text - at'' < length text - at)
      turn_next m at'' o k =
          let (u, p, w) = record_sound kind least (omega (arith, t.small)) (drop at text) h in
          let n : e.id < greatest_name = omega (arith, w.entry.named) in
          let q : suc (length (drop at'' text)) ≡ length (drop at' text) = ap length (sym (mark_sound (drop at' text) k)) in
          let l : length text - at'' < length text - at = omega (arith, shorter, length-drop at' text, length-drop at'' text) in (
            record {
              fuel = left.0;
              es = t.es ++ (e ∷ []);
              size = omega (arith, length-append t.es (e ∷ []), t.size);
              small = omega arith;
              enough = omega (arith, t.enough, left.1, w.above);
              says = step ∙ ap (joined t.es) (more_next e (drop at' text) _ n k) ∙ joined_more t.es e (read_records left.0 kind (e.id + 1) (drop at'' text));
              room = omega (arith, t.room);
            },
            l,
          )

-- ---- a text that is known to be of a set
first_more : (es : List Entry) → first (more es) ≡ 59
first_more [] = refl
first_more (e ∷ es) = refl

module _ (kind : Kind) (e : Entry) (es : List Entry) (h : IsSet kind (e ∷ es)) (t : List ℕ) where
  pub known_record : t ≡ entry_text e ++ more es → read_record kind 0 t ≡ got e (more es)
  known_record q = rw q (record_complete kind 0 e (more es) (head_entry h) (omega arith) (first_more es))

  pub known_first : (begun : Bool) → begun ≡ false → t ≡ rest begun (e ∷ es) → read_record kind 0 t ≡ got e (more es)
  known_first begun b q =
      known_record (q ∙ ap (λ (x : Bool). rest x (e ∷ es)) b ∙ rest_next false e es)

  pub known_mark : (begun : Bool) → begun ≡ true → t ≡ rest begun (e ∷ es) → t ≡ 59 ∷ (entry_text e ++ more es)
  known_mark begun b q = q ∙ ap (λ (x : Bool). rest x (e ∷ es)) b

pub mark_there : (t s : List ℕ) → t ≡ 59 ∷ s → read_mark t ≡ got 59 s
unfolding read_mark
mark_there t s q = rw q
