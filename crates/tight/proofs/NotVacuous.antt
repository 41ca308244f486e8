-- Each number that 01, M-100, M-106 or M-112 gives to a call is given for some input.
use Prim.Native.Nat.{ℕ, ◌-◌, ◌<◌}
use mathlib.Core.Path.{◌≡◌, refl}
use mathlib.Core.List.{List, [], ◌∷◌, ◌++◌}
use mathlib.Core.Logic.{inl, inr, ⊎_elim}
use native.Mathlib.Omega.{arith}
use lib.ListN.{replicate, length-replicate}
use Rattle.index.specs.declared.Kind.TheVariants.{Permission}
use Rattle.index.specs.Letters.{letter_count, letters, may_have}
use Rattle.index.specs.Numbers.{Answers, Each}
use Rattle.index.specs.Block.{number, count_at, count_from, count, room, Sized, name_count, Good}
use Rattle.index.specs.Message.{IsKind, kind_of, kind_in, flags, present, markers, mask_with, half_at, halves, previous, new, changes, own_count, Marked, Half, Named, Masked, Carried, PackedWell, packed, packed_kind, packed_half, packed_change, packed_changes}
use Rattle.index.specs.Wide.{list_length, mask_in, list_offset, names_from, names, list_place, pairs, wide_halves, Sent, previous_of, new_of, FormedOf}
use Rattle.index.specs.Wide.Sent.{plain, wide}
use Rattle.index.specs.Text.{Writes, digits_of, decimal, piece_of, pieces_of, entry_text, text_of, counts_from, counts_at, set_from, set_of}
use Rattle.index.specs.work.Reading.{digit, reaches, read_digits, read_number, read_count, read_letter, read_counts, read_mark, read_record, read_more, read_records, parse}
use Rattle.index.specs.Calls.{block_needs, make_needs, sent_needs, set_needs, write_needs, Makes, Sends, Message, WritesSet, ReadsSet, list_needs, CarriesOut}
use Rattle.index.proofs.laws.Firsts.{All, first_all, passed_first, refuses, answers_first, first_passed}
use Rattle.index.proofs.laws.text.SetReader.{parse_sound}
use Rattle.index.proofs.laws.block.GoodTest.{good_test_lem}
use Rattle.directory.specs.Directory.{directory_length}
use Rattle.directory.specs.By.{making_needs, MakesDirectory, KeptBy, SendsBy, ReadBy, WriteBy}
use Rattle.rights.specs.Profiles.{ordinary, IsProfile}
use Rattle.rights.specs.Questions.{question_needs, unreported, Full, Short, FullBy, ShortBy}
use Rattle.tight.specs.Blocks.{zeros, giving, absent, several, nothing, reads, give, withdraw}
use Rattle.tight.specs.Examples.{two_records, give_four, withdraw_four}
use Rattle.tight.specs.EachNumber.{MakeGives, SentGives, WriteGives, ReadGives, QuestionsGive, make_numbers, message_numbers, write_numbers, read_numbers, question_numbers, ListGives, DirectoryGives, SentByGives, WriteByGives, ReadByGives, QuestionsByGive, directory_numbers, by_directory}
use Rattle.tight.proofs.Starred.{◌and◌, texts_right, limits_right, wides_right}
use Rattle.tight.proofs.RefusedTest.{refused_test, stop_test, stop_test_lem}
use Rattle.tight.proofs.Mill.{made, first_given, held_by_one, no_to_all}
use mathlib.Core.Bool.{Bool, true, false}
use Rattle.index.proofs.laws.message.ListTests.{own_needs}
use Rattle.index.proofs.laws.message.MessageTest.{form_test_lem, mask_test_lem}
use Rattle.tight.proofs.BlockTest.{block_test, block_test_lem}
use Rattle.tight.proofs.ByDirectory.{sent_lent, read_lent, write_lent, questions_lent, not_lent, made_directory, not_made, fine_nothing}

-- ---- a requirement that does not hold gives its number

-- Every call but make gives it, whatever the form of a message.
abbrev AllGive : ℕ → Type 0
AllGive r = ((form : List ℕ → Sent) → SentGives form r) × (WriteGives r × ReadGives r) × QuestionsGive r × ListGives r

module _ (b : List ℕ) (r : ℕ) (above : 0 < r) where
  pub not_zero : r ≡ 0 → ⊥
  not_zero e = omega arith

  first : (ts us : List (ℕ × Type 0)) → Answers ts r → Answers (ts ++ us) r
  first ts us a = answers_first ts us not_zero a

  sent_gives : (form : List ℕ → Sent) (m : List ℕ) → Answers (sent_needs b (form m)) r → SentGives form r
  unfolding Sends
  sent_gives form m a = (b, m, b, refuses _ _ (sent_needs b (form m)) not_zero a)

  list_gives : (cs : List ℕ) → Answers (list_needs b cs) r → ListGives r
  unfolding CarriesOut
  list_gives cs a = (b, cs, b, refuses _ _ (list_needs b cs) not_zero a)

  sets_give : (kind x : ℕ) → Answers (set_needs b kind x) r → WriteGives r × ReadGives r
  unfolding WritesSet write_needs ReadsSet
  sets_give kind x a = (
    (b, kind, x, [], (0, []), refuses _ _ (write_needs b kind x []) not_zero (first (set_needs b kind x) _ a)),
    (b, kind, x, [], (0, b), refuses _ _ (set_needs b kind x) not_zero a),
  )

  questions_give : (u o request profile : ℕ) → Answers (question_needs b u o request profile) r → QuestionsGive r
  unfolding Full Short
  questions_give u o request profile a =
      let ts = question_needs b u o request profile in
      (b, u, o, request, profile, (0, 0, 0), 0, refuses _ _ ts not_zero a, refuses _ _ ts not_zero a)

  calls_give : Answers (block_needs b) r → AllGive r
  unfolding sent_needs set_needs question_needs list_needs
  calls_give a =
      let bs = block_needs b in
      ((λ form. sent_gives form [] (first bs _ a)), sets_give 1 0 (first bs _ a), questions_give 0 0 1 ordinary (first bs _ a), list_gives [] (first bs _ a))

-- ---- the block: one of no bytes, and one whose header is all zero

no_bytes : AllGive 1
unfolding block_needs Sized
no_bytes = calls_give [] 1 (omega arith) (inl ((λ s. omega (arith, s.0)), refl))

no_header : AllGive 2
unfolding block_needs Sized number
no_header =
    calls_give (zeros 16) 2 (omega arith) (inr ((omega arith, omega arith), inl ((λ g. omega (arith, g.m_offset)), refl)))

-- ---- what each call is given, on the block of 40 bytes

pub past_block : (us : List (ℕ × Type 0)) (r : ℕ) → Answers us r → Answers (block_needs nothing ++ us) r
unfolding block_needs Sized number count_at may_have
past_block us r a = inr ((omega arith, omega arith), inr (good_test_lem nothing refl, a))

-- Kind 0, and key name_count.
no_kind : WriteGives 3 × ReadGives 3
unfolding set_needs IsKind
no_kind = sets_give nothing 3 (omega arith) 0 9 (past_block _ 3 (inl ((λ k. omega (arith, k.0)), refl)))

no_key : WriteGives 4 × ReadGives 4
unfolding set_needs IsKind
no_key =
    sets_give nothing 4 (omega arith) 1 name_count
    (past_block _ 4 (inr ((omega arith, omega arith), inl ((λ n. omega (arith, n)), refl))))

-- User name_count, and request 0.
no_user : QuestionsGive 4
unfolding question_needs
no_user = questions_give nothing 4 (omega arith) name_count 9 15 ordinary (past_block _ 4 (inl ((λ n. omega (arith, n.0)), refl)))

no_request : QuestionsGive 5
unfolding question_needs
no_request =
    questions_give nothing 5 (omega arith) 1 9 0 ordinary
    (past_block _ 5 (inr ((omega arith, omega arith), inl ((λ n. omega (arith, n.0)), refl))))

-- The number 2 is no profile.
fifteen : Answers (question_needs nothing 1 9 15 2) 15
unfolding question_needs IsProfile
fifteen =
    past_block _ 15
    (inr ((omega arith, omega arith), inr ((omega arith, omega arith), inl ((λ p. ⊎_elim (λ e. omega arith) (λ e. omega arith) p), refl))))

no_profile : Full nothing 1 9 15 2 (unreported 15) × Short nothing 1 9 15 2 (15, 0)
unfolding Full Short
no_profile =
    (refuses _ _ (question_needs nothing 1 9 15 2) (λ z. omega arith) fifteen, refuses _ _ (question_needs nothing 1 9 15 2) (λ z. omega arith) fifteen)

-- ---- a message, plain or wide, to that block

module _ (form : List ℕ → Sent) (m : List ℕ) where
  no_form : (FormedOf (form m) → ⊥) → SentGives form 3
  unfolding sent_needs
  no_form wrong = sent_gives nothing 3 (omega arith) form m (past_block _ 3 (inl (wrong, refl)))

  module _ (formed : FormedOf (form m)) where
    abbrev both : List Half
    both = previous_of (form m) ++ new_of (form m)

    no_name : (Each Named both → ⊥) → SentGives form 4
    unfolding sent_needs
    no_name wrong = sent_gives nothing 4 (omega arith) form m (past_block _ 4 (inr (formed, inl (wrong, refl))))

    no_mask : Each Named both → (Each Masked both → ⊥) → SentGives form 5
    unfolding sent_needs
    no_mask named wrong = sent_gives nothing 5 (omega arith) form m (past_block _ 5 (inr (formed, inr (named, inl (wrong, refl)))))

-- A message of no bytes, one with the id name_count, and one with the mask 0.
plain_wrong : SentGives plain 3 × SentGives plain 4 × SentGives plain 5
unfolding Named Masked kind_in flags present markers mask_with half_at halves kind_of number
plain_wrong = (
  no_form plain [] (λ w. omega (arith, w.twelve)),
  no_name plain (giving 2 9 name_count 2) (form_test_lem (plain (giving 2 9 name_count 2)) refl) (λ n. omega (arith, n.0.1)),
  no_mask plain (giving 2 9 1 0) (form_test_lem (plain (giving 2 9 1 0)) refl) ((omega arith, omega arith), tt) (λ n. omega (arith, n.0.0)),
)

abbrev wide_one : ℕ → ℕ → List ℕ
wide_one y mask = several 2 2 absent (record { keys = 9 ∷ []; ids = y ∷ []; mask = mask })

wide_wrong : SentGives wide 3 × SentGives wide 4 × SentGives wide 5
unfolding Named Masked kind_in flags present markers mask_with kind_of number list_length mask_in list_offset names_from names list_place pairs wide_halves
wide_wrong = (
  no_form wide [] (λ w. omega (arith, w.header)),
  no_name wide (wide_one name_count 2) (form_test_lem (wide (wide_one name_count 2)) refl) (λ n. omega (arith, n.0.1)),
  no_mask wide (wide_one 1 0) (form_test_lem (wide (wide_one 1 0)) refl) ((omega arith, omega arith), tt) (λ n. omega (arith, n.0.0)),
)

-- A withdrawal where nothing stands.
none_stands : Message nothing withdraw (6, nothing)
unfolding number count_at count_from count may_have kind_of kind_in flags present markers mask_with half_at halves changes own_count
none_stands = refused_test nothing (plain withdraw) [] 6 refl refl

-- ---- a list of one change: R for the id 1 on a key, given or withdrawn

abbrev change : Bool → ℕ → ℕ → ℕ → List ℕ
change adds kind x mask = packed adds kind x 1 mask ∷ []

-- Kind 0, key name_count and mask 0.
list_no_kind : ListGives 3
unfolding list_needs PackedWell IsKind packed_kind packed
list_no_kind = list_gives nothing 3 (omega arith) (change true 0 9 2) (past_block _ 3 (inl ((λ k. omega (arith, k.0.0.0)), refl)))

list_no_name : ListGives 4
unfolding list_needs PackedWell Marked IsKind packed_kind packed_half packed Named
list_no_name =
    list_gives nothing 4 (omega arith) (change true 2 name_count 2)
    (past_block _ 4 (inr ((((omega arith, omega arith), inl (omega arith)), tt), inl ((λ n. omega (arith, n.0.0)), refl))))

list_no_mask : ListGives 5
unfolding list_needs PackedWell Marked IsKind packed_kind packed_half packed Named Masked
list_no_mask =
    list_gives nothing 5 (omega arith) (change true 2 9 0)
    (past_block _ 5
    (inr ((((omega arith, omega arith), inl (omega arith)), tt), inr (((omega arith, omega arith), tt), inl ((λ n. omega (arith, n.0.0)), refl)))))

-- Where the tests are passed, the change decides.
list_decides : (b cs : List ℕ) (o : ℕ × List ℕ) → Sized b × Good b → All (own_needs cs) → Carried b (packed_changes cs) b o → CarriesOut b cs o
unfolding CarriesOut list_needs block_needs
list_decides b cs o g a c = inr (g.0, inr (g.1, inr (a.0, inr (a.1.0, inr (a.1.1.0, c)))))

abbrev tests : List ℕ → Type 0
tests cs = All (own_needs cs)

one_passes : tests (change true 2 9 2) × tests (change false 2 9 2) × tests (change true 2 10 2)
unfolding PackedWell Marked IsKind packed_kind packed_half packed Named Masked kind_of may_have
one_passes = (
  ((((omega arith, omega arith), inl (omega arith)), tt), (((omega arith, omega arith), tt), (((omega arith, mask_test_lem (packed_half (packed true 2 9 1 2)) refl), tt), tt))),
  ((((omega arith, omega arith), inl (omega arith)), tt), (((omega arith, omega arith), tt), (((omega arith, mask_test_lem (packed_half (packed false 2 9 1 2)) refl), tt), tt))),
  ((((omega arith, omega arith), inl (omega arith)), tt), (((omega arith, omega arith), tt), (((omega arith, mask_test_lem (packed_half (packed true 2 10 1 2)) refl), tt), tt))),
)

-- As the mill's messages: accepted, nothing to withdraw, no count left to add to, and no room.
list_accepted : CarriesOut nothing (change true 2 9 2) (0, reads 1)
unfolding Sends sent_needs block_needs number count_at may_have packed_change packed_half packed_kind packed kind_of kind_in flags present markers mask_with half_at halves changes
list_accepted =
    let p = first_passed (λ n. (n, nothing)) (Carried nothing (changes (previous give) (new give)) nothing) (0, reads 1) (λ o. o.0) (λ n. refl) (sent_needs nothing (plain give)) (omega arith) refl first_given in
    list_decides nothing (change true 2 9 2) (0, reads 1) (p.0.0, p.0.1.0) one_passes.0 p.1

list_refused : (b cs : List ℕ) (r : ℕ) → block_test b ≡ true → tests cs → stop_test (packed_changes cs) b [] r ≡ true → CarriesOut b cs (r, b)
list_refused b cs r g a e = list_decides b cs (r, b) (block_test_lem b g) a (stop_test_lem b (packed_changes cs) b [] r e)

list_steps : CarriesOut nothing (change false 2 9 2) (6, nothing) × CarriesOut (reads 65535) (change true 2 9 2) (7, reads 65535)
    × CarriesOut (reads 1) (change true 2 10 2) (8, reads 1)
unfolding number count_at count_from count room may_have packed_change packed_half packed_kind packed kind_of own_count
list_steps = (
  list_refused nothing (change false 2 9 2) 6 refl one_passes.1 refl,
  list_refused (reads 65535) (change true 2 9 2) 7 refl one_passes.0 refl,
  list_refused (reads 1) (change true 2 10 2) 8 refl one_passes.2 refl,
)

-- ---- sets, in the block with the set `1;R` of P and key 9

set_passes : (x : ℕ) → x < name_count → All (set_needs (reads 1) 2 x)
unfolding set_needs block_needs Sized number count_at may_have IsKind
set_passes x l = ((omega arith, omega arith), (good_test_lem (reads 1) refl, ((omega arith, omega arith), (l, tt))))

-- Its text does not go into a buffer of no bytes.
no_buffer : WritesSet (reads 1) 2 9 [] (10, 0, [])
unfolding WritesSet write_needs number count_at kind_of letters digits_of decimal piece_of pieces_of entry_text text_of counts_from counts_at set_from set_of
no_buffer = passed_first _ (set_needs (reads 1) 2 9) _ _ _ (set_passes 9 (omega arith)) (inl ((λ l. omega (arith, l)), refl))

-- And there is no room for the same set of another key.
set_written : Writes Permission (record { id = 1; counts = 0 ∷ 1 ∷ zeros (letter_count - 2) } ∷ []) (49 ∷ 59 ∷ 82 ∷ [])
unfolding letters may_have digit reaches read_digits read_number read_count read_letter read_counts read_mark read_record read_more read_records parse
set_written = parse_sound Permission (49 ∷ 59 ∷ 82 ∷ []) refl

no_room : ReadsSet (reads 1) 2 10 (49 ∷ 59 ∷ 82 ∷ []) (8, 0, reads 1)
unfolding ReadsSet number kind_of room set_from set_of
no_room =
    first_all _ _ _ (set_needs (reads 1) 2 10) (set_passes 10 (omega arith))
    (inr (_, set_written, inl ((λ fits. omega (arith, fits)), refl)))

-- ---- each number

pub make_numbers_lem : Each MakeGives make_numbers
unfolding Makes make_needs Sized
make_numbers_lem =
    (nothing, nothing, made nothing refl) and ([], [], inl ((λ s. omega (arith, s.0)), refl)) and tt

pub message_numbers_lem : Each (SentGives plain) message_numbers
message_numbers_lem =
    (nothing, give, reads 1, first_given)
    and no_bytes.0 plain
    and no_header.0 plain
    and plain_wrong.0
    and plain_wrong.1
    and plain_wrong.2
    and (nothing, withdraw, nothing, none_stands)
    and (reads 65535, give, reads 65535, limits_right.1.0)
    and (reads 1, giving 2 10 1 2, reads 1, limits_right.1.1.1.0)
    and tt

pub wide_numbers : Each (SentGives wide) message_numbers
wide_numbers =
    let rows = wides_right.1.1.1.1 in
    (_, give_four, _, wides_right.0)
    and no_bytes.0 wide
    and no_header.0 wide
    and wide_wrong.0
    and wide_wrong.1
    and wide_wrong.2
    and (_, withdraw_four, _, rows.1.0)
    and (_, give_four, _, rows.0)
    and (_, _, _, rows.1.1.0)
    and tt

pub list_numbers : Each ListGives message_numbers
list_numbers =
    (nothing, change true 2 9 2, reads 1, list_accepted)
    and no_bytes.3
    and no_header.3
    and list_no_kind
    and list_no_name
    and list_no_mask
    and (nothing, change false 2 9 2, nothing, list_steps.0)
    and (reads 65535, change true 2 9 2, reads 65535, list_steps.1)
    and (reads 1, change true 2 10 2, reads 1, list_steps.2)
    and tt

pub write_numbers_lem : Each WriteGives write_numbers
write_numbers_lem =
    (two_records, 2, 7, zeros 13, _, texts_right.0.0 (zeros 13) (omega arith))
    and no_bytes.1.0
    and no_header.1.0
    and no_kind.0
    and no_key.0
    and (reads 1, 2, 9, [], (0, []), no_buffer)
    and tt

pub read_numbers_lem : Each ReadGives read_numbers
unfolding Sized number count_at may_have IsKind
read_numbers_lem =
    (two_records, 2, 7, _, (2, two_records), texts_right.0.1)
    and no_bytes.1.1
    and no_header.1.1
    and no_kind.1
    and no_key.1
    and (reads 1, 2, 10, _, (0, reads 1), no_room)
    and (
      nothing,
      1,
      9,
      _,
      (4, nothing),
      texts_right.1.0 nothing 1 9 (omega arith, omega arith) (good_test_lem nothing refl) (omega arith, omega arith) (omega arith),
    )
    and tt

pub question_numbers_lem : Each QuestionsGive question_numbers
unfolding IsProfile
question_numbers_lem =
    (reads 1, 1, 9, 15, ordinary, (2, 0, 0), 0, held_by_one ordinary (inl refl), no_to_all ordinary (inl refl))
    and no_bytes.2
    and no_header.2
    and no_user
    and no_request
    and (nothing, 1, 9, 15, 2, (0, 0, 0), 0, no_profile.0, no_profile.1)
    and tt

-- ---- M-106: by a directory, each number of the call without it, and 13

module _ (P Q : ℕ → Type 0) (f : (n : ℕ) → P n → Q n) where
  each_by : (ns : List ℕ) → Each P ns → Each Q ns
  each_by [] p = tt
  each_by (n ∷ ns) p = (f n p.0, each_by ns p.1)

pub directory_numbers_lem : Each DirectoryGives directory_numbers
unfolding MakesDirectory making_needs block_needs Sized number
directory_numbers_lem =
    let blank : List ℕ = replicate directory_length 0 in
    let made = made_directory nothing blank fine_nothing (length-replicate {A = ℕ} directory_length 0) in
    (nothing, blank, made.0, made.1)
    and ([], [], [], inl ((λ s. omega (arith, s.0)), refl))
    and (zeros 16, [], [], inr ((omega arith, omega arith), inl ((λ g. omega (arith, g.m_offset)), refl)))
    and (nothing, [], [], not_made nothing fine_nothing)
    and tt

module _ (form : List ℕ → Sent) where
  sent_by_gives : (n : ℕ) → SentGives form n → SentByGives form n
  sent_by_gives n (b, m, b', told) = let k = sent_lent b (form m) n b' told in (b, k.0, m, b', k.1, k.2)

  sent_by_numbers : Each (SentGives form) message_numbers → Each (SentByGives form) (by_directory message_numbers)
  unfolding SendsBy KeptBy
  sent_by_numbers numbers =
      (nothing, [], give, nothing, [], not_lent nothing fine_nothing (λ n. (n, 0, nothing, [])) _)
      and each_by (SentGives form) (SentByGives form) sent_by_gives message_numbers numbers

pub message_by_numbers : Each (SentByGives plain) (by_directory message_numbers)
message_by_numbers = sent_by_numbers plain message_numbers_lem

pub wide_by_numbers : Each (SentByGives wide) (by_directory message_numbers)
wide_by_numbers = sent_by_numbers wide wide_numbers

write_by_gives : (n : ℕ) → WriteGives n → WriteByGives n
write_by_gives n (b, kind, x, out, r, told) =
    let k = write_lent b kind x out n r.0 r.1 told in
    (b, k.0, kind, x, out, r, k.1)

pub write_by_numbers : Each WriteByGives (by_directory write_numbers)
unfolding WriteBy
write_by_numbers =
    (nothing, [], 2, 9, [], (0, []), not_lent nothing fine_nothing (λ n. (n, 0, [])) _)
    and each_by WriteGives WriteByGives write_by_gives write_numbers write_numbers_lem

read_by_gives : (n : ℕ) → ReadGives n → ReadByGives n
read_by_gives n (b, kind, x, text, r, told) =
    let k = read_lent b kind x text n r.0 r.1 told in
    (b, k.0, kind, x, text, r.0, r.1, k.1, k.2)

pub read_by_numbers : Each ReadByGives (by_directory read_numbers)
unfolding ReadBy KeptBy
read_by_numbers =
    (nothing, [], 2, 9, [], 0, nothing, [], not_lent nothing fine_nothing (λ n. (n, 0, nothing, [])) _)
    and each_by ReadGives ReadByGives read_by_gives read_numbers read_numbers_lem

questions_by_give : (n : ℕ) → QuestionsGive n → QuestionsByGive n
questions_by_give n (b, u, o, request, profile, values, answer, full, short) =
    let k = questions_lent b u o request profile (n, values.0, values.1, values.2) (n, answer) full short in
    (b, k.0, u, o, request, profile, values, answer, k.1, k.2)

pub question_by_numbers : Each QuestionsByGive (by_directory question_numbers)
unfolding FullBy ShortBy
question_by_numbers =
    (nothing, [], 1, 9, 15, ordinary, (0, 0, 0), 0, not_lent nothing fine_nothing unreported _, not_lent nothing fine_nothing (λ n. (n, 0)) _)
    and each_by QuestionsGive QuestionsByGive questions_by_give question_numbers question_numbers_lem
