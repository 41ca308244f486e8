-- What reading a set tells: the bytes read are the text of a set, or begin one.
use Prim.Native.Nat.{ℕ, suc, ◌+◌, ◌<◌, ◌≤◌}
use mathlib.Core.Path.{◌≡◌, refl, sym, ap, ◌∙◌, subst}
use mathlib.Core.Bool.{Bool, true, false, cond, ◌&&◌}
use mathlib.Core.List.{List, [], ◌∷◌, ◌++◌, append-nil}
use lib.ListN.{get_or, drop}
use lib.Dec.{eqb, ltb}
use native.Mathlib.Omega.{arith}
use borrow.Author.Tests.{ltb-true, ltb-false, eqb-true}
use Rattle.index.specs.declared.Kind.{Kind}
use Rattle.index.specs.Letters.{letters}
use Rattle.index.specs.Block.{greatest_name, name_count}
use Rattle.index.specs.Text.{Entry, decimal, piece_of, pieces_of, entry_text, text_of, IsEntry, IsSet, Writes}
use Rattle.index.specs.work.Reading.{Parsed, and_then, read_number, read_counts, read_mark, total, read_letters, read_after_id, read_record, read_more, read_records, parse}
use Rattle.index.specs.work.Reading.Parsed.{got, wrong}
use Rattle.index.proofs.laws.block.MayHave.{capital, not_both}
use Rattle.index.proofs.laws.text.TakenApart.{and_inv, guard_inv, and_true, not_got}
use Rattle.index.proofs.laws.text.Readers.{Begun, Tells, Reader, tells_as, tells_end, tells_byte, tells_next, reader_got, reader_wrong, reader_if, some, reads, reader_then, reader_give}
use Rattle.index.proofs.laws.text.ReadLetters.{piece_none}
use Rattle.index.proofs.laws.text.ReadSets.{all_letters}
use Rattle.index.proofs.laws.text.NumberReader.{Number, number_reader}
use Rattle.index.proofs.laws.text.LetterReader.{Counts, fair_cons, counts_reader}

-- ---- a record

total_some : (cs : List ℕ) → 0 < total cs → (k : ℕ) × (0 < get_or cs k 0)
total_some [] h = absurd (omega arith)
total_some (ℕ.zero ∷ cs) h = let (k, g) = total_some cs (omega arith) in (suc k, g)
total_some (suc c ∷ cs) h = (0, omega arith)

-- what a record with an id from `least` on is written as
pub record EntryText (kind : Kind) (least : ℕ) (e : Entry) (u : List ℕ) : Type 0 where
  pub text : entry_text e ≡ u
  pub entry : IsEntry kind e
  pub above : least ≤ e.id

-- letters, of which there is one at least
abbrev Lettered : Kind → List ℕ → List ℕ → Type 0
Lettered kind cs u = Counts kind 0 letters cs u × (0 < total cs)

-- the first letter once, and whatever may follow
some_lettered : (kind : Kind) → Begun (List ℕ) (Lettered kind) []
unfolding letters pieces_of
some_lettered kind =
    let l = get_or letters 0 0 in
    let ls = drop 1 letters in
    let (cs, more, c) = some (Counts kind 1 ls) (read_counts kind 1 ls) (counts_reader kind 1 ls) in
    let f = fair_cons kind 0 l ls 1 cs (omega arith) (λ z. not_both kind 0 z (capital kind 0 (omega arith))) c.1 in
    (1 ∷ cs, piece_of l 1 ++ more, (((λ i. piece_of l 1 ++ c.0 i), f), omega arith))

no_letters : (ls cs : List ℕ) → total cs ≡ 0 → pieces_of ls cs ≡ []
unfolding pieces_of
no_letters [] cs e = refl
no_letters (l ∷ ls) [] e = refl
no_letters (l ∷ ls) (ℕ.zero ∷ cs) e = ap (λ (r : List ℕ). r ++ pieces_of ls cs) (piece_none l) ∙ no_letters ls cs (omega arith)
no_letters (l ∷ ls) (suc c ∷ cs) e = absurd (omega arith)

mark_reader : Reader ℕ read_mark (λ m u. 59 ∷ [] ≡ u)
unfolding read_mark
mark_reader [] = tells_end read_mark (λ m u. 59 ∷ [] ≡ u) wrong _ (reader_wrong (λ m u. 59 ∷ [] ≡ u) (59, 59 ∷ [], refl) []) refl
mark_reader (b ∷ t) = go (eqb b 59) refl
  where
    go : (d : Bool) → eqb b 59 ≡ d → Tells ℕ read_mark (λ m u. 59 ∷ [] ≡ u) (b ∷ t) (cond d (got b t) (wrong (b ∷ t)))
    go true p =
        tells_next read_mark (λ m u. 59 ∷ [] ≡ u) (got b) b t _
        (reader_got (λ m u. 59 ∷ [] ≡ b ∷ u) b (ap (λ (x : ℕ). x ∷ []) (sym (eqb-true b 59 p))) t) (λ s. simp p)
    go false p = tells_byte read_mark (λ m u. 59 ∷ [] ≡ u) wrong b t _ (reader_wrong (λ m u. 59 ∷ [] ≡ u) (59, 59 ∷ [], refl) (b ∷ t)) (λ s. simp p)

pub mark_sound : (t : List ℕ) {m : ℕ} {r : List ℕ} → read_mark t ≡ got m r → t ≡ 59 ∷ r
mark_sound t {m} {r} e =
    let (u, q, w) = reads (λ m u. 59 ∷ [] ≡ u) read_mark mark_reader t e in q ∙ ap (λ (x : List ℕ). x ++ r) (sym w)

module _ (kind : Kind) (least i : ℕ) (l : least ≤ i) (h : i ≤ greatest_name) where
  entry_of : (cs u : List ℕ) → Lettered kind cs u → EntryText kind least (record { id = i; counts = cs }) (decimal i ++ (59 ∷ u))
  unfolding entry_text
  entry_of cs u (c, s) =
      record {
        text = ap (λ (x : List ℕ). decimal i ++ (59 ∷ x)) c.0;
        entry = record {
          named = omega arith;
          long = c.1.long ∙ all_letters;
          fits = c.1.fits;
          counted = total_some cs s;
          allowed = λ k n. let z : 0 + k ≡ k = omega arith in c.1.none k (rw z n);
        };
        above = l;
      }

  letters_reader : Reader Entry (read_letters kind i) (λ e v. EntryText kind least e (decimal i ++ (59 ∷ v)))
  letters_reader =
      reader_then (read_counts kind 0 letters) (Counts kind 0 letters) _ (counts_reader kind 0 letters) _
      (λ cs u c.
      reader_if (λ e v. EntryText kind least e (decimal i ++ (59 ∷ (u ++ v)))) (ltb 0 (total cs)) (record { id = i; counts = cs })
      (λ p. entry_of cs (u ++ []) ((c.0 ∙ sym (append-nil u), c.1), ltb-true 0 (total cs) p))
      (λ p.
      let (ds, more, w) = some_lettered kind in
      let e : [] ≡ u = sym (no_letters letters cs (omega (arith, ltb-false 0 (total cs) p))) ∙ c.0 in
      (record { id = i; counts = ds }, more, subst (λ (x : List ℕ). EntryText kind least (record { id = i; counts = ds }) (decimal i ++ (59 ∷ (x ++ more)))) e (entry_of ds more w))))

  after_id_reader : Reader Entry (read_after_id kind i) (λ e v. EntryText kind least e (decimal i ++ v))
  after_id_reader =
      reader_then read_mark (λ m u. 59 ∷ [] ≡ u) _ mark_reader _
      (λ m u w. subst (λ (x : List ℕ). Reader Entry (read_letters kind i) (λ e v. EntryText kind least e (decimal i ++ (x ++ v)))) w letters_reader)

record_reader : (kind : Kind) (least : ℕ) → least ≤ greatest_name → Reader Entry (read_record kind least) (EntryText kind least)
unfolding read_record
record_reader kind least l =
    reader_then (read_number least greatest_name) (Number least greatest_name) (EntryText kind least)
    (number_reader least greatest_name l (omega arith)) _
    (λ i u w. subst (λ (x : List ℕ). Reader Entry (read_after_id kind i) (λ e v. EntryText kind least e (x ++ v))) w.0 (after_id_reader kind least i w.1 w.2))

pub record_sound : (kind : Kind) (least : ℕ) → least ≤ greatest_name → (t : List ℕ) {e : Entry} {r : List ℕ} → read_record kind least t ≡ got e r
    → (u : List ℕ) × (t ≡ u ++ r) × EntryText kind least e u
record_sound kind least l = reads (EntryText kind least) (read_record kind least) (record_reader kind least l)

-- ---- a set

-- what one record or more are written as, with ids from `least` on
data SetText (kind : Kind) (least : ℕ) : List Entry → List ℕ → Type 0 where
  set_text : {e : Entry} {es : List Entry} {u : List ℕ} → IsSet kind (e ∷ es) → least ≤ e.id → text_of (e ∷ es) ≡ u → SetText kind least (e ∷ es) u

module _ (kind : Kind) (least : ℕ) (e : Entry) (u : List ℕ) (w : EntryText kind least e u) where
  set_last : SetText kind least (e ∷ []) (u ++ [])
  unfolding text_of
  set_last = set_text (IsSet.one w.entry) w.above (w.text ∙ sym (append-nil u))

  set_more : {es : List Entry} {v : List ℕ} → SetText kind (e.id + 1) es v → SetText kind least (e ∷ es) (u ++ (59 ∷ v))
  unfolding text_of
  set_more (set_text {e = f} s l q) =
      set_text (IsSet.more {f = f} w.entry (omega arith) s) w.above (λ i. w.text i ++ (59 ∷ q i))

  more_reader : (rest : List ℕ → Parsed (List Entry)) → (e.id < greatest_name → Reader (List Entry) rest (SetText kind (e.id + 1)))
      → Reader (List Entry) (λ r. read_more e r rest) (λ es v. SetText kind least es (u ++ v))
  unfolding read_more
  more_reader rest k [] =
      tells_end (λ r. read_more e r rest) _ (got (e ∷ [])) _ (reader_got (λ es v. SetText kind least es (u ++ v)) (e ∷ []) set_last []) refl
  more_reader rest k (b ∷ t) = go (ltb e.id greatest_name && eqb b 59) refl
    where
      go : (d : Bool) → (ltb e.id greatest_name && eqb b 59) ≡ d
          → Tells (List Entry) (λ r. read_more e r rest) (λ es v. SetText kind least es (u ++ v)) (b ∷ t)
          (cond d (and_then (rest t) (λ es r. got (e ∷ es) r)) (wrong (b ∷ t)))
      go true p =
          let a = and_true (ltb e.id greatest_name) _ p in
          tells_next (λ r. read_more e r rest) (λ es v. SetText kind least es (u ++ v)) (λ s. and_then (rest s) (λ es r. got (e ∷ es) r)) b t _
          (reader_give rest (SetText kind (e.id + 1)) (λ es v. SetText kind least es (u ++ (b ∷ v))) (k (ltb-true e.id greatest_name a.0))
          (λ es. e ∷ es)
          (λ es v z. subst (λ (x : ℕ). SetText kind least (e ∷ es) (u ++ (x ∷ v))) (sym (eqb-true b 59 a.1)) (set_more z)) t)
          (λ s. simp p)
      go false p =
          tells_byte (λ r. read_more e r rest) (λ es v. SetText kind least es (u ++ v)) wrong b t _
          (reader_wrong (λ es v. SetText kind least es (u ++ v)) (e ∷ [], [], set_last) (b ∷ t)) (λ s. simp p)

records_reader : (f : ℕ) (kind : Kind) (least : ℕ) → name_count ≤ f + least → least ≤ greatest_name
    → Reader (List Entry) (read_records f kind least) (SetText kind least)
unfolding read_records
records_reader ℕ.zero kind least h l = absurd (omega arith)
records_reader (suc f) kind least h l =
    reader_then (read_record kind least) (EntryText kind least) (SetText kind least) (record_reader kind least l) _
    (λ e u w.
    let a = w.above in
    more_reader kind least e u w (read_records f kind (e.id + 1)) (λ n. records_reader f kind (e.id + 1) (omega arith) (omega arith)))

-- records are read to the end of the text
more_end : (e : Entry) (r : List ℕ) (rest : List ℕ → Parsed (List Entry)) {es : List Entry} {u : List ℕ}
    → ((s : List ℕ) (gs : List Entry) (v : List ℕ) → rest s ≡ got gs v → v ≡ []) → read_more e r rest ≡ got es u → u ≡ []
unfolding read_more
more_end e [] rest {es} {u} ih q = let z : [] ≡ u = cc in sym z
more_end e (b ∷ s) rest {es} {u} ih q =
    let g = guard_inv (ltb e.id greatest_name && eqb b 59) _ _ q in
    let (gs, v, p, q') = and_inv (rest s) _ g.1 in
    let z : v ≡ u = cc in
    sym z ∙ ih s gs v p

records_end : (f : ℕ) (kind : Kind) (least : ℕ) (t : List ℕ) {es : List Entry} {u : List ℕ} → read_records f kind least t ≡ got es u → u ≡ []
unfolding read_records
records_end ℕ.zero kind least t q = absurd (not_got q)
records_end (suc f) kind least t q =
    let (e, r, p, q') = and_inv (read_record kind least t) _ q in
    more_end e r (λ s. read_records f kind (e.id + 1) s) (λ s gs v x. records_end f kind (e.id + 1) s x) q'

-- ---- the whole text

set_writes : (kind : Kind) (es : List Entry) (u : List ℕ) → SetText kind 0 es u → Writes kind es u
unfolding Writes
set_writes kind es u (set_text s l q) = (s, q)

pub parse_reader : (kind : Kind) → Reader (List Entry) (parse kind) (Writes kind)
unfolding parse
parse_reader kind [] =
    tells_end (parse kind) (Writes kind) (got []) _ (reader_got (Writes kind) [] (unfold Writes text_of in (IsSet.empty, refl)) []) refl
parse_reader kind (b ∷ t) =
    tells_byte (parse kind) (Writes kind) (read_records name_count kind 0) b t _
    (tells_as (read_records name_count kind 0) (SetText kind 0) (Writes kind) (b ∷ t) _ (set_writes kind)
    (records_reader name_count kind 0 (omega arith) (omega arith) (b ∷ t)))
    (λ s. refl)

parse_end : (kind : Kind) (t : List ℕ) {es : List Entry} {r : List ℕ} → parse kind t ≡ got es r → r ≡ []
unfolding parse
parse_end kind [] {es} {r} q = let z : [] ≡ r = cc in sym z
parse_end kind (b ∷ t) q = records_end name_count kind 0 (b ∷ t) q

pub parse_sound : (kind : Kind) (t : List ℕ) {es : List Entry} {r : List ℕ} → parse kind t ≡ got es r → Writes kind es t
parse_sound kind t {es} {r} q =
    let (u, p, w) = reads (Writes kind) (parse kind) (parse_reader kind) t q in
    subst (Writes kind es) (sym (p ∙ ap (λ (x : List ℕ). u ++ x) (parse_end kind t q) ∙ append-nil u)) w
