-- 01, "Five empty programs have to be turned away", and those of M-100 and M-106: no program that meets the promises is one of them.
use Prim.Native.Nat.{ℕ, ◌+◌, ◌<◌, ◌≤◌}
use mathlib.Core.Path.{◌≡◌, refl, sym, ap, subst, ◌∙◌}
use mathlib.Core.List.{List, [], ◌∷◌}
use native.Mathlib.Omega.{arith}
use lib.ListN.{length, get_or, replicate, length-replicate, get_or-replicate}
use Rattle.index.specs.declared.Kind.{Kind}
use Rattle.index.specs.declared.Kind.TheVariants.{Membership, Permission}
use Rattle.index.specs.Letters.{may_have}
use Rattle.index.specs.Block.{number, Sized, Good, count_at, count}
use Rattle.index.specs.Message.{IsKind, kind_of, kind_number, kind_in, flags, present, markers, mask_with, half_at, halves, moves}
use Rattle.index.specs.Wide.{Sent}
use Rattle.index.specs.Wide.Sent.{plain, wide}
use Rattle.index.specs.Calls.{block_needs, Makes, Sends, ReadsSet}
use Rattle.index.specs.History.{left, others, after, moves_of, tally}
use Rattle.index.proofs.laws.Firsts.{first_passed, first_sure}
use Rattle.index.proofs.laws.block.GoodTest.{good_test_lem}
use Rattle.directory.specs.Directory.{directory_length, part_start, BeginsAt, Own}
use Rattle.directory.specs.By.{directory_needs, making_needs, MakesDirectory, By, KeptBy, SendsBy, ReadBy, WriteBy}
use Rattle.directory.proofs.DirectoryOf.{has_own}
use Rattle.directory.proofs.Keeping.{Left, Valued}
use Rattle.directory.proofs.KeptTrue.{sent_by_true}
use Rattle.rights.specs.Profiles.{ordinary}
use Rattle.rights.specs.Questions.{unreported, FullBy, ShortBy}
use Rattle.tight.specs.Blocks.{zeros, absent, several, nothing, reads, give}
use Rattle.tight.specs.Examples.{InEach, ring, two_records, two_text, lot, give_four, withdraw_four, readers}
use Rattle.tight.specs.Programs.{Program, Meets, RefusesEverything, AnswersTheSame, ChangesNothing, LeavesBehind, TakesAny, OnceForAll, LeavesHalfDone, OnlyTheFirst, Handed, MakesUpCounts}
use Rattle.tight.proofs.Programs as does
use Rattle.tight.proofs.ByDirectory.{sent_lent, left_good, read_lent, write_lent, full_lent, short_lent, questions_lent, not_lent, made_directory, not_made, fine_nothing, fine_one, two_owns, owned_nine}
use Rattle.tight.proofs.Demand3.{second_half}
use Rattle.tight.proofs.Mill.{by, made, first_given, second_given, held_by_one, held_by_none, yes_to_one, no_to_all, count_of_one}
use Rattle.tight.proofs.Starred.{texts_right, examined_right, wides_right}
use Rattle.tight.proofs.TextTest.{emptied}

-- ---- M-106: the examples, by a directory

-- A directory of 3,075 zeros is no block's own, since a part begins at 16 at the least.
abbrev blank_directory : List ℕ
blank_directory = replicate directory_length 0

directory_made : (d : List ℕ) × MakesDirectory nothing blank_directory (0, d)
directory_made = made_directory nothing blank_directory fine_nothing (length-replicate {A = ℕ} directory_length 0)

made_own : (e d : List ℕ) → MakesDirectory nothing e (0, d) → Own nothing d
unfolding MakesDirectory making_needs block_needs
made_own e d made =
    (first_passed {O = ℕ × List ℕ} (λ n. (n, e)) (λ o. (o.0 ≡ 0) × Own nothing o.1) (0, d) (λ o. o.0) (λ n. refl) (making_needs nothing e) (omega arith) refl made).1.1

not_blank : (d : List ℕ) → Own nothing d → d ≡ blank_directory → ⊥
unfolding BeginsAt part_start
not_blank d own same =
    let (i, low, e) = own.each Membership 0 (omega arith) in
    omega (arith, rw same at e, get_or-replicate {A = ℕ} directory_length (0 + 0) 0 0 (omega arith))

-- A message that gives R on 9 to 1, be it plain or wide.
module _ (m : Sent) (told : Sends nothing m (0, reads 1)) where
  given_by : (d : List ℕ) × (d' : List ℕ) × SendsBy nothing d m (0, 0, reads 1, d')
  given_by = sent_lent nothing m 0 (reads 1) told

  given_own : Own nothing given_by.0
  unfolding SendsBy KeptBy By directory_needs block_needs
  given_own =
      (first_passed {O = ℕ × ℕ × List ℕ × List ℕ} (λ n. (n, 0, nothing, given_by.0)) (Left nothing given_by.0 (Valued nothing m)) (0, 0, reads 1, given_by.1) (λ o. o.0) (λ n. refl) (directory_needs nothing given_by.0) (omega arith) refl given_by.2).0.1.1.0

-- A byte of the header tells the two blocks apart.
other_block : reads 1 ≡ nothing → ⊥
other_block same = omega (arith, ap (λ (b : List ℕ). get_or b 2 0) same)

abbrev pair : List ℕ
pair = several 2 2 absent (lot (9 ∷ []) (1 ∷ []))

pair_given : Sends nothing (wide pair) (0, reads 1)
pair_given = wides_right.1.1.1.1.1.1.1.0

written_by : (d : List ℕ) × WriteBy two_records d 2 7 (zeros 13) (0, 13, two_text)
written_by = write_lent two_records 2 7 (zeros 13) 0 13 two_text (texts_right.0.0 (zeros 13) (omega arith))

read_by : (d : List ℕ) × (d' : List ℕ) × ReadBy two_records d 2 7 two_text (0, 2, two_records, d')
read_by = read_lent two_records 2 7 two_text 0 2 two_records texts_right.0.1

asked_by : InEach (λ p. (d : List ℕ) × FullBy (reads 1) d 1 9 15 p (0, 2, 0, 0) × ShortBy (reads 1) d 1 9 15 p (0, 0))
asked_by p is = questions_lent (reads 1) 1 9 15 p (0, 2, 0, 0) (0, 0) (held_by_one p is) (no_to_all p is)

none_by : InEach (λ p. (d : List ℕ) × FullBy nothing d 1 9 15 p (0, 0, 0, 0))
none_by p is = full_lent nothing 1 9 15 p (0, 0, 0, 0) (held_by_none p is)

user_by : InEach (λ p. (d : List ℕ) × FullBy ring d 1 9 15 p (0, 0, 20, 0))
user_by p is = full_lent ring 1 9 15 p (0, 0, 20, 0) (examined_right.0 p is)

object_by : InEach (λ p. (d : List ℕ) × FullBy ring d 9 1 15 p (0, 0, 0, 20))
object_by p is = full_lent ring 9 1 15 p (0, 0, 0, 20) (examined_right.1.0 p is)

yes_by : InEach (λ p. (d : List ℕ) × ShortBy (reads 1) d 1 9 2 p (0, 1))
yes_by p is = short_lent (reads 1) 1 9 2 p (0, 1) (yes_to_one p is)

-- By the block's own directory a read is the read without it.
read_owned : (b d : List ℕ) → Sized b × Good b → Own b d → (kind x : ℕ) (text : List ℕ) (o : ℕ × ℕ × List ℕ × List ℕ) → ReadBy b d kind x text o
    → ReadsSet b kind x text (o.0, o.1, o.2) × Own o.2 o.3
unfolding ReadBy KeptBy By directory_needs block_needs
read_owned b d fine own kind x text o told =
    first_sure {O = ℕ × ℕ × List ℕ × List ℕ} (λ n. (n, 0, b, d)) (Left b d (ReadsSet b kind x text)) o (directory_needs b d)
    (fine.0, (fine.1, (own, tt))) told

module _ (p : Program) (meets : Meets p) where
  -- ---- such a message is accepted, and changes the block and its directory; one by an empty directory is refused

  module _ (m : Sent) (told : Sends nothing m (0, reads 1)) where
    abbrev its_own : List ℕ
    its_own = (given_by m told).0

    accepted : 0 < (p.sends nothing m).0 → ⊥
    accepted r = omega (arith, rw (does.does p meets told) at r)

    accepted_by : 0 < (p.sends_by nothing its_own m).0 → ⊥
    accepted_by r = omega (arith, rw (does.does_by p meets (given_by m told).2) at r)

    changed : (p.sends nothing m).1 ≡ nothing → ⊥
    changed same = other_block (rw (does.does p meets told) at same)

    changed_by : (p.sends_by nothing its_own m).2 ≡ nothing → ⊥
    changed_by same = other_block (rw (does.does_by p meets (given_by m told).2) at same)

    followed : (p.sends_by nothing its_own m).3 ≡ its_own → ⊥
    followed keeps =
        let same : (given_by m told).1 ≡ its_own = rw (does.does_by p meets (given_by m told).2) at keeps in
        two_owns its_own (given_own m told)
        (rw same at (sent_by_true nothing its_own (0, 0, reads 1, (given_by m told).1) m refl (given_by m told).2))

  refused_any : (m : Sent) → (p.sends_by nothing [] m).0 ≡ 13
  unfolding SendsBy KeptBy
  refused_any m =
      ap (λ (o : ℕ × ℕ × List ℕ × List ℕ). o.0) (does.does_by p meets (not_lent nothing fine_nothing (λ n. (n, 0, nothing, [])) _))

  -- "One that refuses everything": each call accepts something.
  pub not_refusing : RefusesEverything p → ⊥
  not_refusing (RefusesEverything.makes r) = omega (arith, rw (does.makes p meets (made nothing refl)) at (r nothing))
  not_refusing (RefusesEverything.messages r) = accepted (plain give) first_given (r nothing give)
  not_refusing (RefusesEverything.wides r) = accepted (wide pair) pair_given (r nothing pair)
  not_refusing (RefusesEverything.writes r) =
      omega (arith, rw (does.writes p meets (texts_right.0.0 (zeros 13) (omega arith))) at (r two_records 2 7 (zeros 13)))
  not_refusing (RefusesEverything.reads r) = omega (arith, rw (does.reads p meets texts_right.0.1) at (r two_records 2 7 two_text))
  not_refusing (RefusesEverything.full q is r) = omega (arith, rw (does.answers p meets (held_by_none q is)) at (r nothing 1 9 15))
  not_refusing (RefusesEverything.short q is r) = omega (arith, rw (does.says p meets (yes_to_one q is)) at (r (reads 1) 1 9 2))
  not_refusing (RefusesEverything.directories r) =
      omega (arith, rw (does.makes_directory p meets directory_made.1) at (r nothing blank_directory))
  not_refusing (RefusesEverything.messages_by r) = accepted_by (plain give) first_given (r nothing _ give)
  not_refusing (RefusesEverything.wides_by r) = accepted_by (wide pair) pair_given (r nothing _ pair)
  not_refusing (RefusesEverything.writes_by r) =
      omega (arith, rw (does.writes_by p meets written_by.1) at (r two_records written_by.0 2 7 (zeros 13)))
  not_refusing (RefusesEverything.reads_by r) =
      omega (arith, rw (does.reads_by p meets read_by.2) at (r two_records read_by.0 2 7 two_text))
  not_refusing (RefusesEverything.full_by q is r) =
      omega (arith, rw (does.answers_by p meets (asked_by q is).1) at (r (reads 1) (asked_by q is).0 1 9 15))
  not_refusing (RefusesEverything.short_by q is r) =
      omega (arith, rw (does.says_by p meets (asked_by q is).2) at (r (reads 1) (asked_by q is).0 1 9 15))

  -- "One that grants the same mask always: demand 2's chains." The mask is 0 with no grant and 2 with one; the short answer on
  -- the same block is yes to reading and no to everything. M-109's numbers are 0 on the empty block and 20 on the ring.
  pub not_the_same : AnswersTheSame p → ⊥
  not_the_same (AnswersTheSame.full q mask is same) =
      let none = rw (does.answers p meets (held_by_none q is)) at (same nothing 1 9 15) in
      let one = rw (does.answers p meets (held_by_one q is)) at (same (reads 1) 1 9 15) in
      omega (arith, none refl, one refl)
  not_the_same (AnswersTheSame.user q n is same) =
      let none = rw (does.answers p meets (held_by_none q is)) at (same nothing 1 9 15) in
      let some = rw (does.answers p meets (examined_right.0 q is)) at (same ring 1 9 15) in
      omega (arith, none refl, some refl)
  not_the_same (AnswersTheSame.object q n is same) =
      let none = rw (does.answers p meets (held_by_none q is)) at (same nothing 1 9 15) in
      let some = rw (does.answers p meets (examined_right.1.0 q is)) at (same ring 9 1 15) in
      omega (arith, none refl, some refl)
  not_the_same (AnswersTheSame.short q answer is same) =
      let yes = rw (does.says p meets (yes_to_one q is)) at (same (reads 1) 1 9 2) in
      let no = rw (does.says p meets (no_to_all q is)) at (same (reads 1) 1 9 15) in
      omega (arith, yes refl, no refl)
  not_the_same (AnswersTheSame.full_by q mask is same) =
      let none = rw (does.answers_by p meets (none_by q is).1) at (same nothing (none_by q is).0 1 9 15) in
      let one = rw (does.answers_by p meets (asked_by q is).1) at (same (reads 1) (asked_by q is).0 1 9 15) in
      omega (arith, none refl, one refl)
  not_the_same (AnswersTheSame.user_by q n is same) =
      let none = rw (does.answers_by p meets (none_by q is).1) at (same nothing (none_by q is).0 1 9 15) in
      let some = rw (does.answers_by p meets (user_by q is).1) at (same ring (user_by q is).0 1 9 15) in
      omega (arith, none refl, some refl)
  not_the_same (AnswersTheSame.object_by q n is same) =
      let none = rw (does.answers_by p meets (none_by q is).1) at (same nothing (none_by q is).0 1 9 15) in
      let some = rw (does.answers_by p meets (object_by q is).1) at (same ring (object_by q is).0 9 1 15) in
      omega (arith, none refl, some refl)
  not_the_same (AnswersTheSame.short_by q answer is same) =
      let yes = rw (does.says_by p meets (yes_by q is).1) at (same (reads 1) (yes_by q is).0 1 9 2) in
      let no = rw (does.says_by p meets (asked_by q is).2) at (same (reads 1) (asked_by q is).0 1 9 15) in
      omega (arith, yes refl, no refl)

  -- "One whose messages change nothing, and one that works at the first message and then only says accepted: demand 2's
  -- steps, message by message." A byte of the header, of the count of R, or of the text tells the two lists apart.
  pub not_idle : ChangesNothing p → ⊥
  unfolding Sized number count_at may_have IsKind kind_of
  not_idle (ChangesNothing.makes keeps) =
      let blank = zeros (length nothing) in
      let same : nothing ≡ blank = rw (does.makes p meets (made blank refl)) at (keeps blank) in
      omega (arith, ap (λ (b : List ℕ). get_or b 8 0) same)
  not_idle (ChangesNothing.messages keeps) = changed (plain give) first_given (keeps nothing give)
  not_idle (ChangesNothing.wides keeps) = changed (wide pair) pair_given (keeps nothing pair)
  not_idle (ChangesNothing.writes keeps) =
      let same = rw (does.writes p meets (texts_right.0.0 (zeros 13) (omega arith))) at (keeps two_records 2 7 (zeros 13)) in
      omega (arith, ap (λ (b : List ℕ). get_or b 0 0) same)
  not_idle (ChangesNothing.reads keeps) =
      let none = emptied (reads 1) 2 9 (omega arith, omega arith) (good_test_lem (reads 1) refl) (omega arith, omega arith) (omega arith) _
      (meets.read (reads 1) 2 9 []) 1 1 (omega arith) in
      omega (arith, none, ap (λ (b : List ℕ). count b Permission 9 1 1) (keeps (reads 1) 2 9 []), count_of_one)
  not_idle (ChangesNothing.directories keeps) =
      let same : directory_made.0 ≡ blank_directory =
      rw (does.makes_directory p meets directory_made.1) at (keeps nothing blank_directory) in
      not_blank directory_made.0 (made_own blank_directory directory_made.0 directory_made.1) same
  not_idle (ChangesNothing.messages_by keeps) = changed_by (plain give) first_given (keeps nothing _ give)
  not_idle (ChangesNothing.wides_by keeps) = changed_by (wide pair) pair_given (keeps nothing _ pair)
  not_idle (ChangesNothing.writes_by keeps) =
      let same = rw (does.writes_by p meets written_by.1) at (keeps two_records written_by.0 2 7 (zeros 13)) in
      omega (arith, ap (λ (b : List ℕ). get_or b 0 0) same)
  not_idle (ChangesNothing.reads_by keeps) =
      let d = has_own fine_one.1 in
      let o = p.read_by (reads 1) d.0 2 9 [] in
      let read = read_owned (reads 1) d.0 fine_one d.1 2 9 [] o (meets.read_by (reads 1) d.0 2 9 []) in
      let none = emptied (reads 1) 2 9 fine_one.0 fine_one.1 (omega arith, omega arith) (omega arith) (o.0, o.1, o.2) read.0 1 1 (omega arith) in
      omega (arith, none, ap (λ (b : List ℕ). count b Permission 9 1 1) (keeps (reads 1) d.0 2 9 []), count_of_one)

  -- M-106: the directory of the block of 40 bytes is another than that of the block with a record in it.
  pub not_behind : LeavesBehind p → ⊥
  unfolding IsKind kind_of
  not_behind (LeavesBehind.messages keeps) = followed (plain give) first_given (keeps nothing _ give)
  not_behind (LeavesBehind.wides keeps) = followed (wide pair) pair_given (keeps nothing _ pair)
  not_behind (LeavesBehind.reads keeps) =
      let d = has_own fine_one.1 in
      let o = p.read_by (reads 1) d.0 2 9 [] in
      let read = read_owned (reads 1) d.0 fine_one d.1 2 9 [] o (meets.read_by (reads 1) d.0 2 9 []) in
      let nine = owned_nine o.2 d.0 (left_good (reads 1) 2 9 [] o.0 o.1 o.2 read.0 fine_one.1) (rw (keeps (reads 1) d.0 2 9 []) at read.1) d.1 in
      omega (
        arith,
        nine.3,
        emptied (reads 1) 2 9 fine_one.0 fine_one.1 (omega arith, omega arith) (omega arith) (o.0, o.1, o.2) read.0 nine.0
            nine.1 nine.2,
      )

  -- M-106: a directory of no numbers is no block's own.
  pub not_any : TakesAny p → ⊥
  unfolding ReadBy WriteBy KeptBy FullBy ShortBy
  not_any (TakesAny.directories never) =
      never nothing [] (ap (λ (o : ℕ × List ℕ). o.0) (does.makes_directory p meets (not_made nothing fine_nothing)))
  not_any (TakesAny.messages never) = never nothing [] give (refused_any (plain give))
  not_any (TakesAny.wides never) = never nothing [] pair (refused_any (wide pair))
  not_any (TakesAny.writes never) =
      never nothing [] 2 9 [] (ap (λ (o : ℕ × ℕ × List ℕ). o.0) (does.writes_by p meets (not_lent nothing fine_nothing (λ n. (n, 0, [])) _)))
  not_any (TakesAny.reads never) =
      never nothing [] 2 9 [] (ap (λ (o : ℕ × ℕ × List ℕ × List ℕ). o.0) (does.reads_by p meets (not_lent nothing fine_nothing (λ n. (n, 0, nothing, [])) _)))
  not_any (TakesAny.full never) =
      never nothing [] 1 9 15 ordinary (ap (λ (o : ℕ × ℕ × ℕ × ℕ). o.0) (does.answers_by p meets (not_lent nothing fine_nothing unreported _)))
  not_any (TakesAny.short never) =
      never nothing [] 1 9 15 ordinary (ap (λ (o : ℕ × ℕ). o.0) (does.says_by p meets (not_lent nothing fine_nothing (λ n. (n, 0)) _)))

  -- M-100: give_four leaves four records in a block that had none.
  pub not_once_for_all : OnceForAll p → ⊥
  unfolding number
  not_once_for_all few = omega (arith, rw (does.does p meets wides_right.0) at (few (readers [] 4) give_four refl))

  -- "no lent byte changes"
  pub not_half_done : LeavesHalfDone p → ⊥
  not_half_done h = h.changed (does.keeps p meets h.block h.message h.refused)

  pub not_only_first : OnlyTheFirst p → ⊥
  unfolding number
  not_only_first (OnlyTheFirst.messages accepts) =
      let same : ◌≡◌ {A = ℕ × List ℕ} (0, reads 2) (0, reads 1) =
      sym (does.does p meets second_given) ∙ accepts (reads 1) give (omega arith) in
      omega (arith, ap (λ (o : ℕ × List ℕ). get_or o.1 22 0) same)
  not_only_first (OnlyTheFirst.wides accepts) =
      let same = sym (does.does p meets wides_right.1.1.0) ∙ accepts _ withdraw_four (omega arith) in
      omega (arith, ap (λ (o : ℕ × List ℕ). get_or o.1 2 0) same)

  -- "One that stores made-up counts, say 1 for any: demand 3's second half."
  pub not_made_up : MakesUpCounts p → ⊥
  not_made_up u =
      let b = p.make u.lent in
      u.differs
      (second_half u.lent b.1 u.block u.messages u.statements
      (subst (λ (n : ℕ). Makes u.lent (n, b.1)) u.made (meets.make u.lent)) (does.as_history p meets u.handed)
      u.kind u.key u.id u.letter u.is_letter)

-- The mill's own fault is of that kind: a program that takes two appointments in and keeps at most 1 for any.
pub one_for_any : (p : Program) → (p.make nothing).0 ≡ 0 → ((b : List ℕ) → (p.sends b (plain give)).0 ≡ 0)
    → ((b m : List ℕ) (kind : Kind) (x y k : ℕ) → count (p.sends b (plain m)).1 kind x y k ≤ 1) → MakesUpCounts p
unfolding kind_in flags present markers mask_with half_at halves kind_of kind_number number left others after moves moves_of tally
one_for_any p m a few =
    let b = (p.make nothing).1 in
    let c = (p.sends b (plain give)).1 in
    record {
      lent = nothing;
      made = m;
      messages = by 1 give ∷ by 2 give ∷ [];
      block = (p.sends c (plain give)).1;
      statements = after (by 2 give) (after (by 1 give) []);
      handed = Handed.accepted (a b) refl (Handed.accepted (a c) refl Handed.nothing);
      kind = Permission;
      key = 9;
      id = 1;
      letter = 1;
      is_letter = omega arith;
      differs = λ e. omega (arith, e, few c give Permission 9 1 1);
    }
