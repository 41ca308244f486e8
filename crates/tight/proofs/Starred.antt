-- The starred examples of 01: the whole table, by tests that compute.
use Prim.Native.Nat.{ℕ}
use mathlib.Core.Path.{refl, sym, ap}
use mathlib.Core.List.{List, [], ◌∷◌, ◌++◌}
use mathlib.Core.Logic.{⊎_elim}
use native.Mathlib.Omega.{arith}
use Rattle.index.specs.Letters.{letters, may_have}
use Rattle.index.specs.Numbers.{Each}
use Rattle.index.specs.Block.{number, count_at, count_from, count, room}
use Rattle.index.specs.Message.{kind_of, kind_number, kind_in, flags, present, mask_with, half_at, halves, changes, moves, taken, added, own_count, Marked, WellFormed}
use Rattle.index.specs.Message as message
use Rattle.index.specs.Wide.{list_length, mask_in, list_offset, names_from, names, list_place, Rising, WideFormed, pairs, wide_halves}
use Rattle.index.specs.Text.{digits_of, decimal, piece_of, pieces_of, entry_text, text_of, counts_from, counts_at, set_from, set_of}
use Rattle.index.specs.work.Reading.{digit, reaches, read_digits, read_number, read_count, read_letter, read_counts, read_mark, read_record, read_more, read_records, parse}
use Rattle.tight.specs.Blocks.{twos, once, block, takes_x, giving, absent, several, nothing, reads, give}
use Rattle.tight.specs.Examples.{Case, Shows, granted, masks, texts, places, chains, examined, appointments, limits, member, markers, firms, denials, denied_everywhere, lot, four, give_four, reader, readers, wides, cases}
use Rattle.index.proofs.laws.message.Halves.{differ}
use Rattle.tight.proofs.CaseTest.{all_mean, all_asked}

-- The tests of one case after the other.
infixr 2 ◌and◌
pub ◌and◌ : {A B : Type 0} → A → B → A × B
a and b = (a, b)

masks_right : Each Shows masks
unfolding number count_at count_from count room may_have kind_of kind_number kind_in flags present message.markers mask_with half_at halves changes moves taken added own_count
masks_right = all_mean masks ((granted 135 ∷ [], refl, refl) and (refl, refl, refl) and (granted 79 ∷ [], refl, refl) and (refl, refl, refl) and tt)

pub texts_right : Each Shows texts
unfolding number count_at letters may_have kind_of digits_of decimal piece_of pieces_of entry_text text_of counts_from counts_at set_from set_of digit reaches read_digits read_number read_count read_letter read_counts read_mark read_record read_more read_records parse
texts_right =
    all_mean texts
    ((refl, refl, refl) and refl and refl and refl and refl and refl and refl and tt and (refl, refl, refl) and tt)

places_right : Each Shows places
unfolding letters may_have digit reaches read_digits read_number read_count read_letter read_counts read_mark read_record read_more read_records parse
places_right = all_mean places (refl and refl and refl and refl and refl and tt)

chains_right : Each Shows chains
unfolding number count_at may_have
chains_right = all_asked chains refl

pub examined_right : Each Shows examined
unfolding number count_at may_have
examined_right = all_asked examined refl

pub appointments_right : Each Shows appointments
unfolding number count_at count_from count room may_have kind_of kind_number kind_in flags present message.markers mask_with half_at halves changes moves taken added own_count
appointments_right =
    all_mean appointments
    ((reads 1 ∷ [], refl, refl)
    and (reads 2 ∷ [], refl, refl)
    and (reads 1 ∷ [], refl, refl)
    and (refl, refl, refl)
    and (nothing ∷ [], refl, refl)
    and (refl, refl, refl)
    and tt)

pub limits_right : Each Shows limits
unfolding number count_at count_from count room may_have kind_of kind_number kind_in flags present message.markers mask_with half_at halves changes moves taken added own_count
limits_right =
    let moved : List ℕ = block [] (once 10 1 2 ∷ []) [] 0 in
    all_mean limits
    ((reads 65534 ∷ reads 65535 ∷ [], refl, refl)
    and ([], refl, refl)
    and (nothing ∷ moved ∷ [], refl, refl)
    and ([], refl, refl)
    and tt)

-- M-107: the markers. A message with both, one with a marker on its absent half, and one of another kind.
both_markers : WellFormed (giving 49 1 10 3) → ⊥
unfolding message.markers Marked
both_markers w = ⊎_elim (λ e. omega arith) (λ m. omega (arith, m.0)) (w.begun.marked 1 (omega arith))

on_absent : WellFormed (giving takes_x 1 10 3) → ⊥
unfolding message.markers Marked present flags
on_absent w = ⊎_elim (λ e. omega arith) (λ m. differ (sym m.2)) (w.begun.marked 0 (omega arith))

on_others : (WellFormed (giving 18 1 10 3) → ⊥) × (WellFormed (giving 19 1 10 3) → ⊥)
unfolding message.markers Marked kind_in kind_of kind_number
on_others = (
  (λ w. ⊎_elim (λ e. omega arith) (λ m. omega (arith, ap kind_number m.1)) (w.begun.marked 1 (omega arith))),
  (λ w. ⊎_elim (λ e. omega arith) (λ m. omega (arith, ap kind_number m.1)) (w.begun.marked 1 (omega arith))),
)

pub markers_right : Each Shows markers
unfolding number count_at count_from count room may_have kind_of kind_number kind_in flags present message.markers mask_with half_at halves changes moves taken added own_count letters digits_of decimal piece_of pieces_of entry_text text_of counts_from counts_at set_from set_of digit reaches read_digits read_number read_count read_letter read_counts read_mark read_record read_more read_records parse
markers_right =
    all_mean markers
    ((member 1 1 0 ∷ [], refl, refl)
    and (member 2 1 0 ∷ [], refl, refl)
    and (member 1 0 0 ∷ member 2 0 1 ∷ [], refl, refl)
    and (nothing ∷ [], refl, refl)
    and (member 0 1 0 ∷ [], refl, refl)
    and ([], refl, refl)
    and ([], refl, refl)
    and (refl, both_markers)
    and (refl, on_absent)
    and (refl, on_others.0)
    and (refl, on_others.1)
    and (refl, refl, refl)
    and refl
    and refl
    and tt)

-- M-112: the denials.
pub denials_right : Each Shows denials
unfolding number count_at may_have
denials_right = all_asked denials refl

denied_everywhere_right : Each Shows denied_everywhere
unfolding number count_at may_have
denied_everywhere_right = all_asked denied_everywhere refl

pub firms_right : Each Shows firms
unfolding number count_at may_have
firms_right = all_asked firms refl

-- M-100: wide messages. A list that is empty, too long or not strictly rising, an absent half with lists or with a mask, and a header or a
-- length that is wrong.
no_list : WideFormed (several 2 2 absent (lot [] (3 ∷ []))) → ⊥
unfolding present flags list_length
no_list w = omega (arith, (w.lists 1 (omega arith) refl).0.0)

nine_ids : WideFormed (several 2 2 absent (lot (7 ∷ []) (1 ∷ 2 ∷ 3 ∷ 4 ∷ 5 ∷ 6 ∷ 7 ∷ 8 ∷ 9 ∷ []))) → ⊥
unfolding present flags list_length
nine_ids w = omega (arith, (w.lists 1 (omega arith) refl).1.1)

not_rising : (WideFormed (several 2 2 absent (lot (7 ∷ []) (3 ∷ 3 ∷ []))) → ⊥)
    × (WideFormed (several 2 2 absent (lot (7 ∷ []) (4 ∷ 3 ∷ []))) → ⊥)
unfolding present flags list_length list_offset number names_from names Rising
not_rising = (
  (λ w. omega (arith, (w.lists 1 (omega arith) refl).1.2.0.0)),
  (λ w. omega (arith, (w.lists 1 (omega arith) refl).1.2.0.0)),
)

not_absent : (WideFormed (several 2 2 four four) → ⊥) × (WideFormed (several 2 2 (record { keys = []; ids = []; mask = 2 }) four) → ⊥)
unfolding present flags list_length mask_in
not_absent = (
  (λ w. omega (arith, (w.absent 0 (omega arith) refl).0)),
  (λ w. omega (arith, (w.absent 0 (omega arith) refl).2)),
)

too_short : WideFormed give → ⊥
too_short w = omega (arith, w.header)

too_long : WideFormed (give_four ++ (0 ∷ [])) → ⊥
unfolding list_length list_place
too_long w = omega (arith, w.ends)

no_offset : WideFormed (2 ∷ 2 ∷ 0 ∷ 0 ∷ 1 ∷ 1 ∷ 0 ∷ 2 ∷ (twos (0 ∷ 16 ∷ 16 ∷ 18 ∷ []) ++ twos (7 ∷ 3 ∷ []))) → ⊥
unfolding list_offset number list_place
no_offset w = omega (arith, w.offsets 0 (omega arith))

pub wides_right : Each Shows wides
unfolding number count_at count_from count room may_have kind_of kind_number kind_in flags present message.markers mask_with half_at halves changes moves taken added own_count list_length mask_in list_offset names_from names list_place pairs wide_halves
wides_right =
    all_mean wides
    ((
      readers (reader 7 3 1 ∷ []) 3
          ∷ readers (reader 7 3 1 ∷ reader 7 4 1 ∷ []) 2
          ∷ readers (reader 7 3 1 ∷ reader 7 4 1 ∷ reader 9 3 1 ∷ []) 1
          ∷ readers (reader 7 3 1 ∷ reader 7 4 1 ∷ reader 9 3 1 ∷ reader 9 4 1 ∷ []) 0 ∷ [],
      refl,
      refl,
    )
    and (readers (reader 7 3 2 ∷ reader 7 4 1 ∷ reader 9 3 1 ∷ reader 9 4 1 ∷ []) 0 ∷ [], refl, refl)
    and (
      readers (reader 7 3 1 ∷ reader 7 4 1 ∷ reader 9 3 1 ∷ reader 9 4 1 ∷ []) 0
          ∷ readers (reader 7 3 1 ∷ reader 9 3 1 ∷ reader 9 4 1 ∷ []) 1
          ∷ readers (reader 7 3 1 ∷ reader 9 4 1 ∷ []) 2
          ∷ readers (reader 7 3 1 ∷ []) 3 ∷ [],
      refl,
      refl,
    )
    and (
      readers (reader 7 4 1 ∷ []) 1
          ∷ readers [] 2
          ∷ readers (reader 9 3 1 ∷ []) 1
          ∷ readers (reader 9 3 1 ∷ reader 9 4 1 ∷ []) 0 ∷ [],
      refl,
      refl,
    )
    and (readers (reader 7 3 2 ∷ reader 7 4 65535 ∷ reader 9 4 1 ∷ []) 0 ∷ [], refl, refl)
    and (readers (reader 9 3 1 ∷ reader 9 4 1 ∷ []) 1 ∷ [], refl, refl)
    and (
      readers (reader 7 3 1 ∷ reader 7 4 1 ∷ reader 9 3 2 ∷ reader 9 4 2 ∷ []) 0
          ∷ readers (reader 7 3 1 ∷ reader 9 3 2 ∷ reader 9 4 2 ∷ []) 1
          ∷ readers (reader 7 3 1 ∷ reader 9 3 1 ∷ reader 9 4 2 ∷ []) 1
          ∷ readers (reader 7 3 1 ∷ reader 9 3 1 ∷ reader 9 4 1 ∷ []) 1
          ∷ readers (reader 7 3 1 ∷ reader 8 3 1 ∷ reader 9 3 1 ∷ reader 9 4 1 ∷ []) 0 ∷ [],
      refl,
      refl,
    )
    and (reads 1 ∷ [], refl, refl)
    and (member 1 1 0 ∷ [], refl, refl)
    and (refl, no_list)
    and (refl, nine_ids)
    and (refl, not_rising.0)
    and (refl, not_rising.1)
    and (refl, not_absent.0)
    and (refl, not_absent.1)
    and (refl, too_short)
    and (refl, too_long)
    and (refl, no_offset)
    and tt)

-- A table with what it says; and one more table before it.
abbrev Table : Type 0
Table = (xs : List Case) × Each Shows xs

both : (xs ys : List Case) → Each Shows xs → Each Shows ys → Each Shows (xs ++ ys)
both [] ys p q = q
both (x ∷ xs) ys p q = (p.0, both xs ys p.1 q)

abbrev after : (xs : List Case) → Each Shows xs → Table → Table
after xs p t = (xs ++ t.0, both xs t.0 p t.1)

-- "the proved table": every starred example holds.
pub table : Each Shows cases
table =
    (after masks masks_right
    (after texts texts_right
    (after places places_right
    (after chains chains_right
    (after examined examined_right
    (after appointments appointments_right
    (after limits limits_right (after markers markers_right (after firms firms_right (after denials denials_right (after denied_everywhere denied_everywhere_right (wides, wides_right)))))))))))
    ).1
