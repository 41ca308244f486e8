-- What a call gives without a directory, it gives by some directory; and by an empty one it gives 13 for a good block.
use Prim.Native.Nat.{ℕ, ◌<◌}
use mathlib.Core.Path.{◌≡◌, refl}
use mathlib.Core.List.{List, []}
use mathlib.Core.Logic.{inl, inr, ⊎_elim}
use native.Mathlib.Decide.{ℕ_discrete}
use native.Mathlib.Omega.{arith}
use lib.ListN.{length}
use Rattle.index.specs.declared.Kind.TheVariants.{Permission}
use Rattle.index.specs.Letters.{letter_count, may_have}
use Rattle.index.specs.Numbers.{First}
use Rattle.index.specs.Block.{number, count_at, count, key, id, Of, Sized, Good}
use Rattle.index.specs.Wide.{Sent}
use Rattle.index.specs.Calls.{block_needs, Sends, WritesSet, ReadsSet, ReadAnswers}
use Rattle.index.proofs.laws.block.GoodTest.{good_test_lem}
use Rattle.index.proofs.laws.Range.{lt_or_le}
use Rattle.index.proofs.laws.block.Records.{of_records, count_at_lem}
use Rattle.index.proofs.laws.message.StaysGood.{stays_good}
use Rattle.directory.specs.Directory.{directory_length, BeginsAt, Own}
use Rattle.directory.specs.By.{directory_needs, making_needs, MakesDirectory, By, KeptBy, SendsBy, ReadBy, WriteBy}
use Rattle.directory.proofs.DirectoryOf.{has_own}
use Rattle.directory.proofs.Passing.{Tests, read_tests, write_tests}
use Rattle.directory.proofs.Keeping.{Valued, valued_tests, read_good, read_same}
use Rattle.rights.specs.Questions.{unreported, Full, Short, FullBy, ShortBy}
use Rattle.rights.proofs.laws.questions.SameAnswers.{full_tests, short_tests}
use Rattle.tight.specs.Blocks.{nothing, reads}

-- A directory to lend with a block: its own, where it is good.
pub record Lent (b : List ℕ) : Type 0 where
  pub directory : List ℕ
  pub own : Sized b → Good b → Own b directory

module _ {O : Type 0} (b : List ℕ) (refused : ℕ → O) (Call : O → Type 0) (tests : Tests b refused Call) (o : O) (told : Call o) where
  pub lent : Lent b
  unfolding block_needs
  lent = go ((tests o).0 told)
    where
      go : First refused (block_needs b) Call o → Lent b
      go (inl p) = record { directory = []; own = λ s g. absurd (p.0 s) }
      go (inr (s, inl p)) = record { directory = []; own = λ s g. absurd (p.0 g) }
      go (inr (s, inr (g, p))) = let d = has_own g in record { directory = d.0; own = λ s g. d.1 }

  pub by_lent : (l : Lent b) → By b l.directory refused Call o
  unfolding By directory_needs block_needs
  by_lent l = go ((tests o).0 told)
    where
      go : First refused (block_needs b) Call o → By b l.directory refused Call o
      go (inl p) = inl p
      go (inr (s, inl p)) = inr (s, inl p)
      go (inr (s, inr (g, p))) = inr (s, inr (g, inr (l.own s g, p)))

-- A call that changes the block, and leaves a good one.
module _ (b : List ℕ) (Call : ℕ × ℕ × List ℕ → Type 0) (tests : Tests b (λ n. (n, 0, b)) Call) (n v : ℕ) (b' : List ℕ)
    (told : Call (n, v, b')) (then : Good b → Good b') where
  pub kept_lent : (l : Lent b) → (d' : List ℕ) × KeptBy b l.directory Call (n, v, b', d')
  unfolding KeptBy By directory_needs block_needs
  kept_lent l = go ((tests (n, v, b')).0 told)
    where
      go : First (λ n. (n, 0, b)) (block_needs b) Call (n, v, b') → (d' : List ℕ) × KeptBy b l.directory Call (n, v, b', d')
      go (inl p) = (l.directory, inl (p.0, λ i. ((p.1 i).0, (p.1 i).1, (p.1 i).2, l.directory)))
      go (inr (s, inl p)) = (l.directory, inr (s, inl (p.0, λ i. ((p.1 i).0, (p.1 i).1, (p.1 i).2, l.directory))))
      go (inr (s, inr (g, p))) = let d = has_own (then g) in (d.0, inr (s, inr (g, inr (l.own s g, (p, d.1)))))

-- ---- the calls

module _ (b : List ℕ) (m : Sent) (n : ℕ) (b' : List ℕ) (told : Sends b m (n, b')) where
  pub sent_lent : (d : List ℕ) × (d' : List ℕ) × SendsBy b d m (n, 0, b', d')
  unfolding SendsBy
  sent_lent =
      let l = lent b (λ n. (n, 0, b)) (Valued b m) (valued_tests b m) (n, 0, b') (refl, told) in
      let k = kept_lent b (Valued b m) (valued_tests b m) n 0 b' (refl, told) (λ g. (stays_good b m (n, b') told g).0) l in
      (l.directory, k.0, k.1)

module _ (b : List ℕ) (kind x : ℕ) (s : List ℕ) (n v : ℕ) (s' : List ℕ) where
  pub left_good : ReadsSet b kind x s (n, v, s') → Good b → Good s'
  unfolding ReadAnswers
  left_good told g =
      elim (ℕ_discrete n 0) [
        | yes z ↦ (read_good b kind x s s' v (rw z at told)).1
        | no some ↦ rw (read_same b kind x s s' n v told some) g
      ]

  pub read_lent : ReadsSet b kind x s (n, v, s') → (d : List ℕ) × (d' : List ℕ) × ReadBy b d kind x s (n, v, s', d')
  unfolding ReadBy
  read_lent told =
      let l = lent b (λ n. (n, 0, b)) (ReadsSet b kind x s) (read_tests b kind x s) (n, v, s') told in
      let k = kept_lent b (ReadsSet b kind x s) (read_tests b kind x s) n v s' told (left_good told) l in
      (l.directory, k.0, k.1)

  pub write_lent : WritesSet b kind x s (n, v, s') → (d : List ℕ) × WriteBy b d kind x s (n, v, s')
  unfolding WriteBy
  write_lent told =
      let l = lent b (λ n. (n, 0, s)) (WritesSet b kind x s) (write_tests b kind x s) (n, v, s') told in
      (l.directory, by_lent b (λ n. (n, 0, s)) (WritesSet b kind x s) (write_tests b kind x s) (n, v, s') told l)

pub full_lent : (b : List ℕ) (u o request profile : ℕ) (a : ℕ × ℕ × ℕ × ℕ) → Full b u o request profile a → (d : List ℕ) × FullBy b d u o request profile a
unfolding FullBy
full_lent b u o request profile a full =
    let l = lent b unreported (Full b u o request profile) (full_tests b u o request profile) a full in
    (l.directory, by_lent b unreported (Full b u o request profile) (full_tests b u o request profile) a full l)

pub short_lent : (b : List ℕ) (u o request profile : ℕ) (c : ℕ × ℕ) → Short b u o request profile c → (d : List ℕ) × ShortBy b d u o request profile c
unfolding ShortBy
short_lent b u o request profile c short =
    let l = lent b (λ n. (n, 0)) (Short b u o request profile) (short_tests b u o request profile) c short in
    (l.directory, by_lent b (λ n. (n, 0)) (Short b u o request profile) (short_tests b u o request profile) c short l)

module _ (b : List ℕ) (u o request profile : ℕ) (a : ℕ × ℕ × ℕ × ℕ) (c : ℕ × ℕ) where
  -- Both questions by the same directory.
  pub questions_lent : Full b u o request profile a → Short b u o request profile c
      → (d : List ℕ) × FullBy b d u o request profile a × ShortBy b d u o request profile c
  unfolding FullBy ShortBy
  questions_lent full short =
      let l = lent b unreported (Full b u o request profile) (full_tests b u o request profile) a full in (
        l.directory,
        by_lent b unreported (Full b u o request profile) (full_tests b u o request profile) a full l,
        by_lent b (λ n. (n, 0)) (Short b u o request profile) (short_tests b u o request profile) c short l,
      )

-- ---- 13: an empty directory is no block's own

module _ {O : Type 0} (b : List ℕ) (fine : Sized b × Good b) (refused : ℕ → O) (Call : O → Type 0) where
  pub not_lent : By b [] refused Call (refused 13)
  unfolding By directory_needs block_needs
  not_lent = inr (fine.0, inr (fine.1, inl ((λ own. omega (arith, own.whole)), refl)))

-- Making one: of the right length, and of another.
pub made_directory : (b e : List ℕ) → Sized b × Good b → length e ≡ directory_length → (d : List ℕ) × MakesDirectory b e (0, d)
unfolding MakesDirectory making_needs block_needs
made_directory b e fine l = let d = has_own fine.1 in (d.0, inr (fine.0, inr (fine.1, inr (l, (refl, d.1)))))

pub not_made : (b : List ℕ) → Sized b × Good b → MakesDirectory b [] (13, [])
unfolding MakesDirectory making_needs block_needs
not_made b fine = inr (fine.0, inr (fine.1, inl ((λ l. omega arith), refl)))

-- ---- of the block of 40 bytes, and of the one with a record in it

pub fine_nothing : Sized nothing × Good nothing
unfolding Sized number count_at may_have
fine_nothing = ((omega arith, omega arith), good_test_lem nothing refl)

pub fine_one : Sized (reads 1) × Good (reads 1)
unfolding Sized number count_at may_have
fine_one = ((omega arith, omega arith), good_test_lem (reads 1) refl)

-- The P record with the key 9 is below 10: where it is, the records from 10 on begin a record later.
pub two_owns : (d : List ℕ) → Own nothing d → Own (reads 1) d → ⊥
unfolding BeginsAt number
two_owns d p q =
    let (i, low, e) = p.each Permission 10 (omega arith) in
    let (j, starts, f) = q.each Permission 10 (omega arith) in
    ⊎_elim (λ l. absurd (omega (arith, starts.above 0 (omega arith) (omega arith)))) (λ l. omega (arith, low.high, e, f)) (lt_or_le j 1)

-- A good block with the directory of that block has a P record with the key 9.
pub owned_nine : (b d : List ℕ) → Good b → Own b d → Own (reads 1) d → (y : ℕ) × (k : ℕ) × (k < letter_count) × (0 < count b Permission 9 y k)
unfolding BeginsAt number
owned_nine b d g p q =
    let (i, low, e) = p.each Permission 9 (omega arith) in
    let (i₁, low₁, e₁) = q.each Permission 9 (omega arith) in
    let (j, high, f) = p.each Permission 10 (omega arith) in
    let (j₁, high₁, f₁) = q.each Permission 10 (omega arith) in
    let first : i₁ ≡ 0 =
    ⊎_elim (λ l. omega arith) (λ l. absurd (omega (arith, low₁.below 0 (omega arith) (omega arith)))) (lt_or_le i₁ 1) in
    let last : j₁ ≡ 1 =
    ⊎_elim (λ l. absurd (omega (arith, high₁.above 0 (omega arith) (omega arith)))) (λ l. omega (arith, high₁.high)) (lt_or_le j₁ 1) in
    let of : Of b Permission 0 = (omega (arith, low.low), omega (arith, high.high)) in
    let nine : key b 0 ≡ 9 = omega (arith, low.above 0 (omega arith) of.1, high.below 0 of.0 (omega arith)) in
    let c = g.counted 0 (of_records Permission b 0 of) in
    (id b 0, c.0, c.1, rw (count_at_lem g Permission 9 (id b 0) 0 c.0 (record { of = of; has_key = nine; has_id = refl })) c.2)
