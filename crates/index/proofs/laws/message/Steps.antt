-- What the tests of the code say of a change: its number, or that it may be done.
use Prim.Native.Nat.{ℕ, ◌+◌, ◌<◌, ◌≤◌}
use mathlib.Core.Path.{◌≡◌, refl}
use mathlib.Core.List.{List}
use mathlib.Core.Logic.{inl, inr, ⊎_elim}
use native.Mathlib.Decide.{ℕ_discrete}
use native.Mathlib.Omega.{arith}
use lib.ListN.{length, get_or}
use Rattle.index.specs.declared.Kind.{Kind}
use Rattle.index.specs.Letters.{letter_count, In}
use Rattle.index.specs.Block.{greatest_count, record_length, place, key, id, Of, count_at, records, room, Good}
use Rattle.index.specs.work.Bytes.{Spliced}
use Rattle.index.specs.work.Checks.{Counted}
use Rattle.index.specs.Message.{Half, Masked, Changed, own_count, change_needs}
use Rattle.index.specs.Message.Change.{take, add}
use Rattle.index.specs.work.Places.{At, Gap}
use Rattle.index.specs.work.Edits.{bit, Allows, Left, Recounted, NewRecord, Ready, Freed, Step}
use Rattle.index.proofs.laws.block.Bytes.{count_small}
use Rattle.index.proofs.laws.message.Changes.{gap_none}
use Rattle.index.proofs.laws.message.Edited.{recounted_is, removed_is, removed_records, inserted_is}
use Rattle.index.proofs.laws.message.HalfLetters.{change_own}
use Rattle.index.proofs.laws.block.MayHave.{bit_zero, some_letter, below}
use Rattle.index.proofs.laws.Range.{lt_or_le}
use Rattle.index.proofs.laws.block.Records.{of_records, count_at_lem, count_none}

-- 6 and 7 by the counts of the record.
module _ (h : Half) {b : List ℕ} {j : ℕ} (g : Good b) (a : At b h.kind h.key h.id j) where
  abbrev TakeNeed : Type 0
  TakeNeed = (k : ℕ) → k < letter_count → In k h.mask → 0 < own_count b h k

  abbrev AddNeed : Type 0
  AddNeed = (k : ℕ) → k < letter_count → In k h.mask → own_count b h k < greatest_count

  stands : (k : ℕ) → own_count b h k ≡ count_at b j k
  unfolding own_count
  stands k = count_at_lem g h.kind h.key h.id j k a

  take_allows : TakeNeed → Allows b j h.mask 0
  take_allows need k l =
      let s = count_small b j k g.bytes in
      let z = bit_zero k in
      elim (ℕ_discrete (bit h.mask k) 1) [
        | yes e ↦ omega (arith, need k l e, stands k)
        | no n ↦ omega arith
      ]

  add_allows : AddNeed → Allows b j 0 h.mask
  add_allows need k l =
      let s = count_small b j k g.bytes in
      let z = bit_zero k in
      elim (ℕ_discrete (bit h.mask k) 1) [
        | yes e ↦ omega (arith, need k l e, stands k)
        | no n ↦ omega arith
      ]

  pub take_lacks : (Allows b j h.mask 0 → ⊥) → Step (take h) b 6 b
  unfolding change_needs
  take_lacks n =
      record { outcome = inl (λ need. n (take_allows need), refl); freed = λ e. absurd (omega arith) }

  take_done : {b' : List ℕ} → Allows b j h.mask 0 → Changed (take h) b b' → Freed (take h) b b' → Step (take h) b 0 b'
  unfolding change_needs
  take_done w d f =
      record { outcome = inr (λ k l e. omega (arith, (w k l).0, stands k, bit_zero k), (refl, d)); freed = λ _. f }

  pub add_full : (Allows b j 0 h.mask → ⊥) → Step (add h) b 7 b
  unfolding change_needs
  add_full n =
      record { outcome = inl (λ need. n (add_allows need), refl); freed = λ _. tt }

  add_raised : {b' : List ℕ} → Allows b j 0 h.mask → Changed (add h) b b' → Step (add h) b 0 b'
  unfolding change_needs
  add_raised w d =
      let c = g.counted j (of_records h.kind b j a.of) in
      record {
        outcome = inr (
          λ k l e. omega (arith, (w k l).1, stands k, bit_zero k),
          inr (inl (c.0, c.1, omega (arith, c.2, stands c.0)), (refl, d)),
        );
        freed = λ _. tt;
      }

-- The record is missing.
module _ (h : Half) {b : List ℕ} {j : ℕ} (gap : Gap b h.kind h.key h.id j) where
  stands_not : (k : ℕ) → own_count b h k ≡ 0
  unfolding own_count
  stands_not k = count_none b h.kind h.key h.id k (gap_none gap)

  pub take_missing : Masked h → Step (take h) b 6 b
  unfolding change_needs Masked
  take_missing m =
      let (k, e) = some_letter h.mask (omega (arith, m.0)) in
      record {
        outcome = inl (λ need. omega (arith, need k (below h.kind k (m.1 k e)) e, stands_not k), refl);
        freed = λ e. absurd (omega arith);
      }

  pub add_no_room : length b < place (records b) + record_length → Step (add h) b 8 b
  unfolding change_needs room
  add_no_room l =
      record {
        outcome = inr (
          λ k _ _. omega (arith, stands_not k),
          inl (⊎_elim (λ s. omega (arith, s.2, stands_not s.0)) (λ r. omega arith), refl),
        );
        freed = λ _. tt;
      }

  add_inserted : {b' : List ℕ} → place (records b) + record_length ≤ length b → Changed (add h) b b' → Step (add h) b 0 b'
  unfolding change_needs room
  add_inserted l d =
      record { outcome = inr (λ k _ _. omega (arith, stands_not k), inr (inr (omega arith), (refl, d))); freed = λ _. tt }

-- ---- what a record taken from leaves

module _
    (h : Half)
    {b b' : List ℕ}
    {j : ℕ}
    (r : Ready h b)
    (a : At b h.kind h.key h.id j)
    (w : Allows b j h.mask 0)
    (bytes : (t : ℕ) → get_or b' t 0 < 256) where
  pub taken_lowered : Left b j h.mask → Recounted j h.mask 0 b b' → Step (take h) b 0 b'
  unfolding own_count
  taken_lowered left d =
      let some : Counted b' j = (left.0, left.1, omega (arith, left.2, d.counts left.0 left.1)) in
      let e = recounted_is (take h) r.good a r.masked d bytes some in
      take_done h r.good a w e
      (λ none.
      let own = change_own (take h) left.0 in
      absurd
      (omega
      (arith, left.2, none left.0 left.1, e.counts h.kind h.key h.id left.0 left.1, own, stands h r.good a left.0, bit_zero left.0)))

  pub taken_removed : (Left b j h.mask → ⊥) → Spliced h.kind j 1 0 b b' → Step (take h) b 0 b'
  taken_removed n s =
      let spent : (k : ℕ) → k < letter_count → count_at b j k ≡ bit h.mask k =
      λ k l.
      ⊎_elim (λ q. absurd (n (k, l, q))) (λ q. omega (arith, (w k l).0, bit_zero k)) (lt_or_le (bit h.mask k) (count_at b j k)) in
      take_done h r.good a w (removed_is h r.good bytes a spent s) (λ _. omega (arith, removed_records h r.good bytes a s))

-- ---- what a record put into becomes

module _ (h : Half) {b b' : List ℕ} {j : ℕ} (r : Ready h b) (bytes : (t : ℕ) → get_or b' t 0 < 256) where
  pub added_raised : At b h.kind h.key h.id j → Allows b j 0 h.mask → Recounted j 0 h.mask b b' → Step (add h) b 0 b'
  added_raised a w d =
      let c = r.good.counted j (of_records h.kind b j a.of) in
      add_raised h r.good a w
      (recounted_is (add h) r.good a r.masked d bytes
      (c.0, c.1, omega (arith, c.2, d.counts c.0 c.1, bit_zero c.0)))

  pub added_inserted : {b₁ : List ℕ} → Gap b h.kind h.key h.id j → place (records b) + record_length ≤ length b
      → Spliced h.kind j 0 1 b b₁ → NewRecord j h.key h.id h.mask b₁ b' → Step (add h) b 0 b'
  added_inserted gap l s w = add_inserted h gap l (inserted_is h r.good bytes r gap s w)

-- ---- what the code asks of a record

pub at_self : {b : List ℕ} {K : Kind} {i : ℕ} → Of b K i → At b K (key b i) (id b i) i
at_self o = record { of = o; has_key = refl; has_id = refl }
