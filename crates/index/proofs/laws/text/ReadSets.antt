-- What `text_of` writes of a set is read as that set.
use Prim.Native.Nat.{ℕ, suc, ◌+◌, ◌<◌, ◌≤◌}
use mathlib.Core.Path.{◌≡◌, refl, sym, ap, ◌∙◌}
use mathlib.Core.List.{List, [], ◌∷◌, ◌++◌, append_assoc, append-nil}
use lib.ListN.{length, get_or, length-append}
use native.Mathlib.Omega.{arith}
use borrow.Author.Tests.{lt-ltb}
use Rattle.index.specs.declared.Kind.{Kind}
use Rattle.index.specs.Letters.{letter_count, letters}
use Rattle.index.specs.Text.{Entry, decimal, pieces_of, entry_text, text_of, IsEntry, IsSet}
use Rattle.index.specs.work.Reading.{Parsed, and_then, read_mark, total, read_record, read_more, read_records, parse}
use Rattle.index.specs.work.Reading.Parsed.{got}
use Rattle.index.proofs.laws.text.Decimal.{first, digit_high}
use Rattle.index.proofs.laws.text.ReadNumbers.{number_complete}
use Rattle.index.proofs.laws.text.ReadLetters.{counts_complete, letters_apart}
use Rattle.index.specs.Block.{greatest_name, name_count}

-- ---- a record

some_total : (cs : List ℕ) (k : ℕ) → 0 < get_or cs k 0 → 0 < total cs
some_total [] k h = h
some_total (c ∷ cs) ℕ.zero h = omega arith
some_total (c ∷ cs) (suc k) h = omega (arith, some_total cs k h)

mark_complete : (r : List ℕ) → read_mark (59 ∷ r) ≡ got 59 r
unfolding read_mark
mark_complete r = refl

pub all_letters : length letters ≡ letter_count
unfolding letters
all_letters = refl

entry_text_lem : (e : Entry) (r : List ℕ) → entry_text e ++ r ≡ decimal e.id ++ (59 ∷ (pieces_of letters e.counts ++ r))
unfolding entry_text
entry_text_lem e r = append_assoc (decimal e.id) (59 ∷ pieces_of letters e.counts) r

pub record_complete : (kind : Kind) (least : ℕ) (e : Entry) (r : List ℕ) → IsEntry kind e → least ≤ e.id → first r ≡ 59
    → read_record kind least (entry_text e ++ r) ≡ got e r
unfolding read_record
record_complete kind least e r h l k =
    let (i, g) = h.counted in
    rw (entry_text_lem e r)
    (simp (
      number_complete least greatest_name e.id (59 ∷ (pieces_of letters e.counts ++ r)) l (omega (arith, h.named)) (omega (arith, h.named)) (digit_high 59 (omega arith)),
      mark_complete,
      counts_complete kind 0 letters e.counts r letters_apart (h.long ∙ sym all_letters) h.fits (λ j q. let z : 0 + j ≡ j = omega arith in h.allowed j (rw z at q)) k,
      lt-ltb 0 (total e.counts) (some_total e.counts i g),
    ))

-- ---- a set

pub head_entry : {kind : Kind} {e : Entry} {es : List Entry} → IsSet kind (e ∷ es) → IsEntry kind e
head_entry (IsSet.one h) = h
head_entry (IsSet.more h l s) = h

few : {kind : Kind} {e : Entry} {es : List Entry} → IsSet kind (e ∷ es) → length (e ∷ es) + e.id ≤ name_count
few (IsSet.one h) = omega (arith, h.named)
few (IsSet.more h l s) = omega (arith, few s)

pub set_few : {kind : Kind} {es : List Entry} → IsSet kind es → length es ≤ name_count
set_few IsSet.empty = omega arith
set_few (IsSet.one h) = omega arith
set_few (IsSet.more {e = e} h l s) = omega (arith, few (IsSet.more h l s))

set_complete : (f : ℕ) (kind : Kind) (least : ℕ) {e : Entry} {es : List Entry} → IsSet kind (e ∷ es) → least ≤ e.id
    → length (e ∷ es) ≤ f → read_records f kind least (text_of (e ∷ es)) ≡ got (e ∷ es) []
unfolding read_records text_of read_more
set_complete ℕ.zero kind least h l k = absurd (omega arith)
set_complete (suc f) kind least {e} (IsSet.one h) l k =
    rw (← append-nil (entry_text e)) (simp (record_complete kind least e [] h l refl))
set_complete (suc f) kind least {e} (IsSet.more {f = g} {es = gs} h u s) l k =
    simp (record_complete kind least e (59 ∷ text_of (g ∷ gs)) h l refl, lt-ltb e.id greatest_name (omega (arith, (head_entry s).named)))
    (ap (λ (x : Parsed (List Entry)). and_then x (λ es r. got (e ∷ es) r)) (set_complete f kind (e.id + 1) s (omega arith) (omega arith)))

-- ---- the whole text

pub long_entry : (e : Entry) → 0 < length (entry_text e)
unfolding entry_text
long_entry e = omega (arith, length-append (decimal e.id) (59 ∷ pieces_of letters e.counts))

pub parse_some : (kind : Kind) (t : List ℕ) → 0 < length t → parse kind t ≡ read_records name_count kind 0 t
unfolding parse
parse_some kind [] h = absurd (omega arith)
parse_some kind (b ∷ t) h = refl

long_text : (e : Entry) (es : List Entry) → 0 < length (text_of (e ∷ es))
unfolding text_of
long_text e [] = long_entry e
long_text e (f ∷ es) = omega (arith, length-append (entry_text e) (59 ∷ text_of (f ∷ es)))

pub parse_complete : (kind : Kind) (es : List Entry) → IsSet kind es → parse kind (text_of es) ≡ got es []
parse_complete kind [] h = unfold parse text_of in refl
parse_complete kind (e ∷ es) h =
    parse_some kind (text_of (e ∷ es)) (long_text e es) ∙ set_complete name_count kind 0 h (omega arith) (omega (arith, few h))
