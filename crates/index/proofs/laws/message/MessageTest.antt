-- A test of an accepted message, plain or wide, that computes: where it says yes, the message leaves the last of the blocks given.
use Prim.Native.Nat.{ℕ, ◌+◌, ◌-◌, ◌*◌, ◌/◌, ◌%◌, ◌^◌, ◌<◌}
use mathlib.Core.Path.{◌≡◌, refl}
use mathlib.Core.Bool.{Bool, true, false, cond, ◌&&◌, ◌||◌}
use mathlib.Core.List.{List, [], ◌∷◌, ◌++◌}
use mathlib.Core.Logic.{◌⊎◌, inl, inr}
use native.Mathlib.Omega.{arith}
use borrow.Author.Tests.{eqb-true, ltb-true, leb-true}
use lib.Dec.{eqb, ltb, leb}
use lib.ListN.{length, get_or}
use Rattle.index.specs.declared.Kind.TheVariants.{Membership}
use Rattle.index.specs.Letters.{letter_count, may_have}
use Rattle.index.specs.Block.{greatest_count, name_count, header_length, greatest_length, Sized, records, room}
use Rattle.index.specs.Message.{IsKind, kind_of, Half, message_length, half_length, half_place, kind_in, flags, present, markers, marker_mask, Marked, Begun, Blank, WellFormed, Named, Masked, Change, changes, own_count, change_needs, Changed, Carried}
use Rattle.index.specs.Message.Change.{take, add}
use Rattle.index.specs.Wide.{wide_header, list_count, longest_list, list_length, mask_in, list_offset, names, list_place, ListGood, WideFormed, Sent, previous_of, new_of, FormedOf}
use Rattle.index.specs.Wide.Sent.{plain, wide}
use Rattle.index.specs.Numbers.{Each}
use Rattle.index.specs.Calls.{Sends, sent_needs, block_needs}
use Rattle.index.specs.work.Edits.{bit}
use Rattle.index.proofs.laws.Tests.{both, all, all_at, some, some_at}
use Rattle.index.proofs.laws.block.MayHave.{AllMay, all_may}
use Rattle.index.proofs.laws.block.GoodTest.{good_test, good_test_lem}
use Rattle.index.proofs.laws.message.Halves.{each_half, kind_one}
use Rattle.index.proofs.laws.message.NameLists.{name_at, rising_steps}
use Rattle.index.proofs.laws.message.ChangeTest.{change_test, change_test_lem}

-- ---- what a change needs

abbrev need_test : Change → List ℕ → Bool
need_test (take h) b = all (λ k. leb (bit h.mask k) (own_count b h k)) 0 letter_count
need_test (add h) b =
    all (λ k. leb (own_count b h k + bit h.mask k) greatest_count) 0 letter_count
    && cond (some (λ k. ltb 0 (own_count b h k)) 0 letter_count) true (ltb (records b) (room b))

room_test : (b : List ℕ) (h : Half) (t : Bool) → some (λ k. ltb 0 (own_count b h k)) 0 letter_count ≡ t
    → cond t true (ltb (records b) (room b)) ≡ true
    → ((k : ℕ) × (k < letter_count) × (0 < own_count b h k)) ⊎ (records b < room b)
room_test b h true q e =
    let s = some_at (λ k. ltb 0 (own_count b h k)) 0 letter_count q in
    inl (s.0, omega (arith, s.1), ltb-true _ _ s.2)
room_test b h false q e = inr (ltb-true _ _ e)

step_test_lem : (b₀ b d : List ℕ) (c : Change) (o : ℕ × List ℕ) (cs : List Change) → need_test c b ≡ true → Changed c b d → Carried b₀ cs d o
    → Carried b₀ (c ∷ cs) b o
unfolding Carried change_needs
step_test_lem b₀ b d (take h) o cs e w r =
    let f : ℕ → Bool = λ k. leb (h.mask / 2 ^ k % 2) (own_count b h k) in
    inr (λ k l i. omega (arith, leb-true (h.mask / 2 ^ k % 2) (own_count b h k) (all_at f 0 letter_count e k (omega arith) (omega arith))), (d, w, r))
step_test_lem b₀ b d (add h) o cs e w r =
    let f : ℕ → Bool = λ k. leb (own_count b h k + h.mask / 2 ^ k % 2) greatest_count in
    let p = both (all f 0 letter_count) _ e in
    inr (
      λ k l i.
          omega (arith, leb-true (own_count b h k + h.mask / 2 ^ k % 2) greatest_count (all_at f 0 letter_count p.0 k (omega arith) (omega arith))),
      inr (room_test b h _ refl p.1, (d, w, r)),
    )

abbrev pub last_of : List ℕ → List (List ℕ) → List ℕ
last_of b [] = b
last_of b (d ∷ ds) = last_of d ds

-- The changes, one after the other, through the blocks given; the test `end` is of the block and of the changes that are left then.
abbrev pub through_test : (List Change → List ℕ → Bool) → List Change → List ℕ → List (List ℕ) → Bool
through_test end cs b [] = end cs b
through_test end [] b (d ∷ ds) = false
through_test end (c ∷ cs) b (d ∷ ds) = need_test c b && (change_test c b d && through_test end cs d ds)

module _ (end : List Change → List ℕ → Bool) (b₀ : List ℕ) (o : List ℕ → ℕ × List ℕ)
    (sound : (cs : List Change) (b : List ℕ) → end cs b ≡ true → Carried b₀ cs b (o b)) where
  pub through_test_lem : (cs : List Change) (b : List ℕ) (ds : List (List ℕ)) → through_test end cs b ds ≡ true
      → Carried b₀ cs b (o (last_of b ds))
  through_test_lem cs b [] e = sound cs b e
  through_test_lem [] b (d ∷ ds) e = let z : ◌≡◌ {A = ℕ} 0 1 = cc in absurd (omega arith)
  through_test_lem (c ∷ cs) b (d ∷ ds) e =
      let p = both (need_test c b) _ e in
      let q = both (change_test c b d) _ p.1 in
      step_test_lem b₀ b d c (o (last_of d ds)) cs p.0 (change_test_lem c b d q.0) (through_test_lem cs d ds q.1)

-- No change is left.
abbrev pub none_left : List Change → List ℕ → Bool
none_left [] b = true
none_left (c ∷ cs) b = false

pub none_left_lem : (b₀ : List ℕ) (cs : List Change) (b : List ℕ) → none_left cs b ≡ true → Carried b₀ cs b (0, b)
unfolding Carried
none_left_lem b₀ [] b e = refl
none_left_lem b₀ (c ∷ cs) b e = let z : ◌≡◌ {A = ℕ} 0 1 = cc in absurd (omega arith)

-- ---- the message itself

abbrev blank_test : List ℕ → ℕ → Bool
blank_test m h = cond (present m h) true (all (λ j. eqb (get_or m (half_place h + j) 0) 0) 0 half_length)

blank_test_lem : (m : List ℕ) (h : ℕ) → blank_test m h ≡ true → present m h ≡ false → Blank m h
unfolding Blank
blank_test_lem m h e f j l = eqb-true _ _ (all_at (λ j. eqb (get_or m (half_place h + j) 0) 0) 0 half_length (rw f at e) j (omega arith) l)

abbrev marked_test : List ℕ → ℕ → Bool
marked_test m h = cond (eqb (markers m h) 0) true (ltb (markers m h) 3 && (eqb (kind_in m) 1 && present m h))

marked_test_lem : (m : List ℕ) (h : ℕ) → marked_test m h ≡ true → Marked (markers m h) (kind_of (kind_in m)) (present m h)
unfolding Marked
marked_test_lem m h e = go (eqb (markers m h) 0) refl e
  where
    go : (t : Bool) → eqb (markers m h) 0 ≡ t → cond t true (ltb (markers m h) 3 && (eqb (kind_in m) 1 && present m h)) ≡ true
        → (markers m h ≡ 0) ⊎ ((markers m h < 3) × (kind_of (kind_in m) ≡ Membership) × (present m h ≡ true))
    go true q e = inl (eqb-true _ _ q)
    go false q e =
        let p = both (ltb (markers m h) 3) _ e in
        let r = both (eqb (kind_in m) 1) _ p.1 in
        inr (ltb-true _ _ p.0, (kind_one (kind_in m)).1 (eqb-true _ _ r.0), r.1)

abbrev begun_test : List ℕ → Bool
begun_test m =
    leb 1 (kind_in m)
    && (leb (kind_in m) 3 && (leb 1 (flags m) && (leb (flags m) 3 && (marked_test m 0 && marked_test m 1))))

begun_test_lem : (m : List ℕ) → begun_test m ≡ true → Begun m
unfolding IsKind
begun_test_lem m e =
    let q = both (leb 1 (kind_in m)) _ e in
    let r = both (leb (kind_in m) 3) _ q.1 in
    let s = both (leb 1 (flags m)) _ r.1 in
    let t = both (leb (flags m) 3) _ s.1 in
    let u = both (marked_test m 0) (marked_test m 1) t.1 in
    record {
      kind = (leb-true _ _ q.0, leb-true _ _ r.0);
      some_half = (leb-true _ _ s.0, leb-true _ _ t.0);
      marked = each_half (λ h. Marked (markers m h) (kind_of (kind_in m)) (present m h)) (marked_test_lem m 0 u.0) (marked_test_lem m 1 u.1);
    }

abbrev plain_test : List ℕ → Bool
plain_test m = eqb (length m) message_length && (begun_test m && (blank_test m 0 && blank_test m 1))

plain_test_lem : (m : List ℕ) → plain_test m ≡ true → WellFormed m
plain_test_lem m e =
    let p = both (eqb (length m) message_length) _ e in
    let q = both (begun_test m) _ p.1 in
    let u = both (blank_test m 0) (blank_test m 1) q.1 in
    record {
      twelve = eqb-true _ _ p.0;
      begun = begun_test_lem m q.0;
      absent = each_half (λ h. present m h ≡ false → Blank m h) (blank_test_lem m 0 u.0) (blank_test_lem m 1 u.1);
    }

-- A list of a wide message; a half of it; and all of it.
module _ (m : List ℕ) where
  abbrev step_test : ℕ → ℕ → Bool
  step_test q j = ltb (name_at m (list_offset m q) j) (name_at m (list_offset m q) (j + 1))

  abbrev list_test : ℕ → Bool
  list_test q = leb 1 (list_length m q) && (leb (list_length m q) longest_list && all (step_test q) 0 (list_length m q - 1))

  list_test_lem : (q : ℕ) → list_test q ≡ true → ListGood m q
  unfolding names
  list_test_lem q e =
      let r = both (leb 1 (list_length m q)) _ e in
      let s = both (leb (list_length m q) longest_list) _ r.1 in
      let rises = rising_steps m (list_offset m q) (list_length m q)
      (λ j l. ltb-true _ _ (all_at (step_test q) 0 (list_length m q - 1) s.1 j (omega arith) (omega arith))) in
      (leb-true _ _ r.0, leb-true _ _ s.0, rises)

  abbrev absent_test : ℕ → Bool
  absent_test h = eqb (list_length m (2 * h)) 0 && (eqb (list_length m (2 * h + 1)) 0 && eqb (mask_in m h) 0)

  abbrev half_test : ℕ → Bool
  half_test h = cond (present m h) (list_test (2 * h) && list_test (2 * h + 1)) (absent_test h)

  absent_test_lem : (h : ℕ) → half_test h ≡ true → present m h ≡ false
      → (list_length m (2 * h) ≡ 0) × (list_length m (2 * h + 1) ≡ 0) × (mask_in m h ≡ 0)
  absent_test_lem h e f =
      let p = both (eqb (list_length m (2 * h)) 0) _ (rw f at e) in
      let q = both (eqb (list_length m (2 * h + 1)) 0) _ p.1 in
      (eqb-true _ _ p.0, eqb-true _ _ q.0, eqb-true _ _ q.1)

  lists_test : (h : ℕ) → half_test h ≡ true → present m h ≡ true → ListGood m (2 * h) × ListGood m (2 * h + 1)
  lists_test h e f =
      let p = both (list_test (2 * h)) (list_test (2 * h + 1)) (rw f at e) in
      (list_test_lem (2 * h) p.0, list_test_lem (2 * h + 1) p.1)

  abbrev place_test : ℕ → Bool
  place_test q = eqb (list_offset m q) (list_place m q)

  abbrev wide_test : Bool
  wide_test =
      leb wide_header (length m)
      && (begun_test m
      && (all place_test 0 list_count && (eqb (length m) (list_place m list_count) && (half_test 0 && half_test 1))))

  wide_test_lem : wide_test ≡ true → WideFormed m
  wide_test_lem e =
      let p = both (leb wide_header (length m)) _ e in
      let q = both (begun_test m) _ p.1 in
      let r = both (all place_test 0 list_count) _ q.1 in
      let s = both (eqb (length m) (list_place m list_count)) _ r.1 in
      let u = both (half_test 0) (half_test 1) s.1 in
      record {
        header = leb-true _ _ p.0;
        begun = begun_test_lem m q.0;
        offsets = λ n l. eqb-true _ _ (all_at place_test 0 list_count r.0 n (omega arith) l);
        ends = eqb-true _ _ s.0;
        absent = each_half _ (absent_test_lem 0 u.0) (absent_test_lem 1 u.1);
        lists = each_half _ (lists_test 0 u.0) (lists_test 1 u.1);
      }

abbrev pub form_test : Sent → Bool
form_test (plain m) = plain_test m
form_test (wide m) = wide_test m

pub form_test_lem : (m : Sent) → form_test m ≡ true → FormedOf m
form_test_lem (plain m) e = plain_test_lem m e
form_test_lem (wide m) e = wide_test_lem m e

abbrev pub mask_test : Half → Bool
mask_test h = ltb h.mask (2 ^ letter_count) && all (λ k. ltb (bit h.mask k) 1 || may_have h.kind k) 0 letter_count

pub mask_test_lem : (h : Half) → mask_test h ≡ true → AllMay h.kind h.mask
mask_test_lem h e =
    let may : ℕ → Bool = λ k. ltb (bit h.mask k) 1 || may_have h.kind k in
    let p = both (ltb h.mask (2 ^ letter_count)) (all may 0 letter_count) e in
    all_may h.kind h.mask (ltb-true _ _ p.0)
    (λ k l i. let q = all_at may 0 letter_count p.1 k (omega arith) l in rw i at q)

abbrev halves_test : List Half → Bool
halves_test [] = true
halves_test (h ∷ hs) =
    ltb h.key name_count
    && (ltb h.id name_count && (ltb 0 (h.mask % marker_mask) && (mask_test h && halves_test hs)))

halves_test_lem : (hs : List Half) → halves_test hs ≡ true → Each Named hs × Each Masked hs
unfolding Named Masked
halves_test_lem [] e = (tt, tt)
halves_test_lem (h ∷ hs) e =
    let p = both (ltb h.key name_count) _ e in
    let q = both (ltb h.id name_count) _ p.1 in
    let r = both (ltb 0 (h.mask % marker_mask)) _ q.1 in
    let s = both (mask_test h) (halves_test hs) r.1 in
    let w = halves_test_lem hs s.1 in
    (((ltb-true _ _ p.0, ltb-true _ _ q.0), w.0), ((ltb-true _ _ r.0, mask_test_lem h s.0), w.1))

-- It passes the tests 1 to 5, so that its changes decide.
abbrev pub pass_test : List ℕ → Sent → Bool
pass_test b m =
    leb header_length (length b)
    && (leb (length b) greatest_length && (good_test b && (form_test m && halves_test (previous_of m ++ new_of m))))

pub pass_test_lem : (b : List ℕ) (m : Sent) (o : ℕ × List ℕ) → pass_test b m ≡ true → Carried b (changes (previous_of m) (new_of m)) b o
    → Sends b m o
unfolding Sends sent_needs block_needs Sized
pass_test_lem b m o e c =
    let p = both (leb header_length (length b)) _ e in
    let q = both (leb (length b) greatest_length) _ p.1 in
    let r = both (good_test b) _ q.1 in
    let s = both (form_test m) _ r.1 in
    let h = halves_test_lem (previous_of m ++ new_of m) s.1 in
    inr (
      (leb-true _ _ p.0, leb-true _ _ q.0),
      inr (good_test_lem b r.0, inr (form_test_lem m s.0, inr (h.0, inr (h.1, c)))),
    )

abbrev pub sent_test : List ℕ → Sent → List (List ℕ) → Bool
sent_test b m ds = pass_test b m && through_test none_left (changes (previous_of m) (new_of m)) b ds

pub sent_test_lem : (b : List ℕ) (m : Sent) (ds : List (List ℕ)) → sent_test b m ds ≡ true → Sends b m (0, last_of b ds)
sent_test_lem b m ds e =
    let p = both (pass_test b m) _ e in
    pass_test_lem b m (0, last_of b ds) p.0 (through_test_lem none_left b (λ b. (0, b)) (none_left_lem b) (changes (previous_of m) (new_of m)) b ds p.1)
