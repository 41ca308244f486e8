-- What is done to the bytes of a record is the change of the half.
use Prim.Native.Nat.{ℕ, ◌+◌, ◌<◌}
use mathlib.Core.Path.{◌≡◌, refl, ◌∙◌}
use mathlib.Core.List.{List}
use mathlib.Core.Logic.{⊎_elim}
use native.Mathlib.Omega.{arith}
use lib.ListN.{get_or}
use Rattle.index.specs.declared.Kind.{Kind}
use Rattle.index.specs.Letters.{letter_count}
use Rattle.index.specs.Block.{records, place, key, id, count_at, Good}
use Rattle.index.specs.work.Bytes.{Spliced}
use Rattle.index.specs.work.Checks.{Counted, Record}
use Rattle.index.specs.Message.{Half, Masked, Change, Changed}
use Rattle.index.specs.Message.Change.{take, add}
use Rattle.index.specs.work.Places.{At, Gap}
use Rattle.index.specs.work.Edits.{bit, Recounted, NewRecord, Ready}
use Rattle.index.proofs.laws.block.Bytes.{number_below, count_out, inside_wide}
use Rattle.index.proofs.laws.message.Changes.{old_one, old_none, new_one, new_none, changed_records, changed_is}
use Rattle.index.proofs.laws.block.Checked.{header_of}
use Rattle.index.proofs.laws.message.HalfLetters.{half_of, less_of, more_of, change_own, more_none}
use Rattle.index.proofs.laws.block.MayHave.{bit_zero, not_in, some_letter, below}
use Rattle.index.proofs.laws.Range.{lt_or_le}
use Rattle.index.proofs.laws.block.Splice.{good_record}
use Rattle.index.proofs.laws.block.SpliceThen.{spliced_then}

spliced_same : {b : List ℕ} → Good b → (K : Kind) (j n : ℕ) → Spliced K j n n b b
spliced_same g K j n =
    record {
      same_length = refl;
      below = λ t l h. refl;
      moved = λ t. refl;
      own = refl;
      other = λ K ne. refl;
      header = header_of g;
    }

-- ---- the counts of a record change

module _
    (c : Change)
    {b b' : List ℕ}
    {j : ℕ}
    (g : Good b)
    (a : At b (half_of c).kind (half_of c).key (half_of c).id j)
    (masked : Masked (half_of c))
    (w : Recounted j (less_of c) (more_of c) b b') where
  recounted_key : key b' j ≡ key b j
  recounted_key = number_below w.rest _ (omega arith)

  recounted_id : id b' j ≡ id b j
  recounted_id = number_below w.rest _ (omega arith)

  recounted_record : Counted b' j → Record b' (half_of c).kind j
  recounted_record some =
      let r = good_record g (half_of c).kind j a.of in
      record {
        key_below = rw recounted_key r.key_below;
        id_below = rw recounted_id r.id_below;
        counted = some;
        allowed =
            λ k l.
            ⊎_elim (λ h. omega (arith, w.counts k h, r.allowed k l, more_none c masked k l)) (λ h. count_out b' j k h)
            (lt_or_le k letter_count);
      }

  pub recounted_is : ((t : ℕ) → get_or b' t 0 < 256) → Counted b' j → Changed c b b'
  recounted_is bytes some =
      changed_is g
      (spliced_then (spliced_same g (half_of c).kind j 1) (inside_wide (place j) (place (j + 1)) w.rest (omega arith) (omega arith)))
      bytes
      (old_one g a)
      (new_one (recounted_record some) (recounted_key ∙ a.has_key) (recounted_id ∙ a.has_id))
      c
      (refl, refl, refl)
      (omega arith)
      (λ k l. omega (arith, w.counts k l, change_own c k))

-- ---- a record goes, or comes

module _ (h : Half) {b b' : List ℕ} {j : ℕ} (g : Good b) (bytes : (t : ℕ) → get_or b' t 0 < 256) where
  pub removed_is : At b h.kind h.key h.id j → ((k : ℕ) → k < letter_count → count_at b j k ≡ bit h.mask k)
      → Spliced h.kind j 1 0 b b' → Changed (take h) b b'
  removed_is a spent s =
      changed_is g s bytes (old_one g a) (new_none b' h.kind h.key h.id j) (take h) (refl, refl, refl) (omega arith)
      (λ k l. omega (arith, spent k l, change_own (take h) k, bit_zero k))

  pub removed_records : At b h.kind h.key h.id j → Spliced h.kind j 1 0 b b' → records b' + 1 ≡ records b + 0
  removed_records a s = changed_records g s bytes (old_one g a) (new_none b' h.kind h.key h.id j)

  pub inserted_is : {b₁ : List ℕ} → Ready h b → Gap b h.kind h.key h.id j → Spliced h.kind j 0 1 b b₁
      → NewRecord j h.key h.id h.mask b₁ b' → Changed (add h) b b'
  unfolding Masked
  inserted_is r gap s w =
      let masked = r.masked in
      let (k₀, in₀) = some_letter h.mask (omega (arith, masked.0)) in
      let l₀ = below h.kind k₀ (masked.1 k₀ in₀) in
      let new : Record b' h.kind j =
      record {
        key_below = rw w.new_key r.key_below;
        id_below = rw w.new_id r.id_below;
        counted = (k₀, l₀, omega (arith, w.counts k₀ l₀, in₀));
        allowed =
            λ k l.
            ⊎_elim (λ q. w.counts k q ∙ not_in h.kind h.mask masked.1 k l) (λ q. count_out b' j k q)
            (lt_or_le k letter_count);
      } in
      changed_is g (spliced_then s w.rest) bytes (old_none gap) (new_one new w.new_key w.new_id) (add h)
      (refl, refl, refl)
      (omega arith)
      (λ k l. omega (arith, w.counts k l, change_own (add h) k, bit_zero k))
