-- The tests of a list, from those of each appointment; and what a list that passed them says of its changes.
use Prim.Native.Nat.{ℕ, ◌+◌, ◌*◌, ◌/◌, ◌%◌, ◌<◌, ◌≤◌}
use mathlib.Core.Path.{◌≡◌, refl}
use mathlib.Core.Bool.{true}
use mathlib.Core.List.{List, [], ◌∷◌}
use mathlib.Core.Logic.{◌↔◌, inl, inr, ⊎_elim}
use native.Mathlib.Omega.{arith}
use lib.ListN.{length, get_or}
use Rattle.std.specs.Prelude.{Result, Ok, Err, is_ok}
use Rattle.index.specs.declared.refusals.Refusal.{Refusal}
use Rattle.index.specs.declared.Kind.TheVariants.{Membership}
use Rattle.index.specs.work.Checks.{Says}
use Rattle.index.specs.Letters.{may_have}
use Rattle.index.specs.Numbers.{Each, Answers}
use Rattle.index.specs.Message.{Half, marker_mask, IsKind, Marked, Named, Masked, packed_kind, packed_half, PackedWell, changes, packed_changes}
use Rattle.index.proofs.laws.Firsts.{All}
use Rattle.index.proofs.laws.block.MayHave.{above_fifteen}
use Rattle.index.proofs.laws.message.Halves.{each_join, kind_one, masked_byte}
use Rattle.index.proofs.laws.message.ListTests.{own_needs}
use Rattle.index.proofs.laws.message.PairsListed.{packed_each}
use Rattle.calendar.specs.declared.Date.{Date}
use Rattle.calendar.specs.declared.Span.{Span}
use Rattle.calendar.specs.Terms.{IsTerm}
use Rattle.calendar.specs.Calls.{SpanOf, SpanAnswers}
use Rattle.calendar.proofs.laws.Terms.{no_span, is_span}
use Rattle.appointments.specs.Appointment.{appointment_length, most_appointments, list_size, byte_of, appointment_at, EachIn, ListFormed, InRange, appointment_needs, standing_only}
use Rattle.appointments.specs.work.Listed.{entry, appointment_of, Formed, Lettered}
use Rattle.appointments.specs.declared.list.Entry.{Entry}
use Rattle.appointments.proofs.laws.Picked.{each_only}

-- The marker of a present half of a membership: it is one of 0, 1 and 2.
pub marker_two : (n : ℕ) → Marked n Membership true ↔ (n ≤ 2)
unfolding Marked
marker_two n = (⊎_elim (λ z. omega arith) (λ m. omega (arith, m.0)), λ h. inr (omega arith, refl, refl))

-- Each is a byte.
abbrev pub Bytes : List ℕ → Type 0
Bytes l = (j : ℕ) → get_or l j 0 < 256

module _ (l : List ℕ) (bytes : Bytes l) (i : ℕ) where
  -- The mask without its marker is the mask byte, and the marker in it the marker byte.
  mask_byte : (appointment_at l i).membership.mask % marker_mask ≡ byte_of l i 4
  unfolding appointment_at
  mask_byte = omega (arith, bytes (12 * i + 4))

  pub marker_byte : (appointment_at l i).membership.mask / marker_mask ≡ byte_of l i 5
  unfolding appointment_at
  marker_byte = omega (arith, bytes (12 * i + 4))

  -- Where 3 has passed, 5 looks at the mask byte: "mask 0, or above 15 for M".
  lettered_masked : Marked (byte_of l i 5) Membership true → Lettered (entry l i) ↔ Masked (appointment_at l i).membership
  unfolding appointment_at may_have entry
  lettered_masked m =
      let h = (appointment_at l i).membership in
      let byte = masked_byte h (rw marker_byte m) in
      let fifteen = above_fifteen Membership (h.mask % marker_mask) (omega arith) refl in (
        (λ t. byte.1 (omega (arith, mask_byte, t.some), fifteen.1 (omega (arith, mask_byte, t.rights)))),
        (λ t. record { some = omega (arith, mask_byte, (byte.0 t).0); rights = omega (arith, mask_byte, fifteen.0 (byte.0 t).1) }),
      )

-- ---- the tests of the list

-- Each appointment passes a test.
abbrev pub AllPass : (Entry → Type 0) → List ℕ → Type 0
AllPass P l = (i : ℕ) → i < list_size l → P (entry l i)

module _ (l : List ℕ) where
  pub formed : length l % appointment_length ≡ 0 → AllPass Formed l → ListFormed l
  unfolding entry
  formed e p = record { whole = e; marked = λ i h. (p i h).marked; zero = λ i h. (p i h).zero }

  pub each_formed : ListFormed l → AllPass Formed l
  unfolding entry
  each_formed f i h = record { marked = f.marked i h; zero = f.zero i h }

  module _ (bytes : Bytes l) (f : ListFormed l) where
    pub masked : AllPass Lettered l → EachIn l (λ a. Masked a.membership)
    masked p i h = (lettered_masked l bytes i (f.marked i h)).0 (p i h)

    pub each_masked : EachIn l (λ a. Masked a.membership) → AllPass Lettered l
    each_masked p i h = (lettered_masked l bytes i (f.marked i h)).1 (p i h)

-- What an entry says is the appointment.
pub of_entry : (l : List ℕ) (i : ℕ) → appointment_of (entry l i) ≡ appointment_at l i
unfolding appointment_of entry appointment_at
of_entry l i = refl

-- There is a span just where there is a term.
pub span_says : (first : Date) (term : ℕ) (r : Result Span Refusal) → SpanAnswers (SpanOf first term) r → Says (IsTerm first term) (is_ok r)
span_says first term (Ok s) h = (is_span first term s h).0
span_says first term (Err e) h = no_span first term e h

-- ---- the answers of the tests, in their order

-- Some appointment fails a test.
abbrev pub OneFails : (Entry → Type 0) → List ℕ → Type 0
OneFails P l = (i : ℕ) × (i < list_size l) × (P (entry l i) → ⊥)

module _ (l : List ℕ) where
  pub not_whole : (length l % appointment_length ≡ 0 → ⊥) → Answers (appointment_needs l) 3
  unfolding appointment_needs
  not_whole n = inl ((λ f. n f.whole), refl)

  pub not_formed : OneFails Formed l → Answers (appointment_needs l) 3
  unfolding appointment_needs
  not_formed w = inl ((λ f. w.2 (each_formed l f w.0 w.1)), refl)

  module _ (whole : length l % appointment_length ≡ 0) (forms : AllPass Formed l) where
    pub not_named : OneFails (λ e. Named (appointment_of e).membership) l → Answers (appointment_needs l) 4
    unfolding appointment_needs entry appointment_of appointment_at
    not_named w = inr (formed l whole forms, inl ((λ p. w.2 (p w.0 w.1)), refl))

    module _ (names : AllPass (λ e. Named (appointment_of e).membership) l) (bytes : Bytes l) where
      pub not_lettered : OneFails Lettered l → Answers (appointment_needs l) 5
      unfolding appointment_needs entry appointment_of appointment_at
      not_lettered w =
          let f = formed l whole forms in
          inr (f, inr (names, inl ((λ p. w.2 (each_masked l bytes f p w.0 w.1)), refl)))

      module _ (letters : AllPass Lettered l) where
        lettered : (r : ℕ) → Answers ((12, InRange l) ∷ []) r → Answers (appointment_needs l) r
        unfolding appointment_needs entry appointment_of appointment_at
        lettered r a =
            let f = formed l whole forms in
            inr (f, inr (names, inr (masked l bytes f letters, a)))

        pub not_few : (list_size l ≤ most_appointments → ⊥) → Answers (appointment_needs l) 12
        not_few n = lettered 12 (inl ((λ r. n r.few), refl))

        pub not_termed : OneFails (λ e. IsTerm e.first e.term) l → Answers (appointment_needs l) 12
        unfolding entry appointment_at
        not_termed w = lettered 12 (inl ((λ r. w.2 (r.terms w.0 w.1)), refl))

        pub all_tested : list_size l ≤ most_appointments → AllPass (λ e. IsTerm e.first e.term) l → Answers (appointment_needs l) 0
        unfolding entry appointment_at
        all_tested few terms = lettered 0 (inr (record { few = few; terms = terms }, refl))

-- ---- the changes of a list that passed

-- A membership that passed, as a number: 3 passes.
abbrev Member : Half → Type 0
Member h = (h.kind ≡ Membership) × Marked (h.mask / marker_mask) Membership true

member_well : (n : ℕ) → Member (packed_half n) → PackedWell n
unfolding PackedWell packed_half IsKind
member_well n m =
    let one : packed_kind n ≡ 1 = (kind_one (packed_kind n)).0 m.0 in
    ((omega arith, omega arith), rw m.0 m.1)

each_well : (cs : List ℕ) → Each (λ n. Member (packed_half n)) cs → Each PackedWell cs
each_well [] m = tt
each_well (n ∷ cs) m = (member_well n m.0, each_well cs m.1)

module _ (l cs : List ℕ) (old new : ℕ) (e : packed_changes cs ≡ changes (standing_only l old new) (standing_only l new old)) where
  each_packed : (P : Half → Type 0) → EachIn l (λ a. P a.membership) → Each (λ n. P (packed_half n)) cs
  each_packed P p =
      packed_each P cs (standing_only l old new) (standing_only l new old) e
      (each_join P (standing_only l old new) (standing_only l new old) (each_only P l old new p) (each_only P l new old p))

  pub changes_pass : Bytes l → All (appointment_needs l) → All (own_needs cs)
  unfolding appointment_needs appointment_at
  changes_pass bytes p = (
    each_well cs (each_packed Member (λ i h. (refl, rw (marker_byte l bytes i) (p.0.marked i h)))),
    (each_packed Named p.1.0, (each_packed Masked p.1.1.0, tt)),
  )
