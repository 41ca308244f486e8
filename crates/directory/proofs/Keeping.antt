-- A call by a directory that changes the block: what it leaves of both.
use Prim.Native.Nat.{ℕ}
use mathlib.Core.Path.{◌≡◌, refl, sym, ap, ◌∙◌}
use mathlib.Core.List.{List}
use mathlib.Core.Logic.{inl, inr}
use native.Mathlib.Decide.{ℕ_discrete}
use native.Mathlib.Omega.{arith}
use Rattle.std.specs.Prelude.{Ok, Err}
use Rattle.index.specs.declared.refusals.ReadError.{ReadError}
use Rattle.index.specs.declared.refusals.ReadError.TheVariants.{NotASet, Refused}
use Rattle.index.proofs.laws.Refusing.{some as is_some}
use Rattle.index.specs.Numbers.{First, Answers, number}
use Rattle.index.specs.Block.{Good}
use Rattle.index.specs.Message.{kind_of}
use Rattle.index.specs.Wide.{Sent}
use Rattle.index.specs.Calls.{block_needs, set_needs, Sends, ReadsText, ReadsSet, ReadAnswers}
use Rattle.index.proofs.laws.Firsts.{first_passed}
use Rattle.index.proofs.laws.message.StaysGood.{stays_good}
use Rattle.index.proofs.laws.demands.Unchanged.{sent_unchanged, read_unchanged}
use Rattle.directory.specs.Directory.{Own}
use Rattle.directory.specs.By.{directory_needs, KeptBy, SendsBy, ReadBy, ReadAnswersBy}
use Rattle.directory.proofs.Passing.{Tests, by_refused, by_own, sent_tests, read_tests}

module _ (b d : List ℕ) (Call : ℕ × ℕ × List ℕ → Type 0) where
  -- What the call without the directory leaves, and the directory of the block then.
  abbrev pub Left : ℕ × ℕ × List ℕ × List ℕ → Type 0
  Left o = Call (o.0, o.1, o.2) × Own o.2 o.3

  pub kept_refused : {n : ℕ} → (n ≡ 0 → ⊥) → Answers (directory_needs b d) n → KeptBy b d Call (n, 0, b, d)
  unfolding KeptBy
  kept_refused = by_refused b d (λ n. (n, 0, b, d)) Left

  -- The call itself tests the block, and where it is good the directory is its own. Where the call refuses, it leaves the block as it
  -- was, and so it is with the directory; else the directory is that of the block then.
  module _ (n v : ℕ) (b' d' : List ℕ) (same : (n ≡ 0 → ⊥) → (b' ≡ b) × (d' ≡ d)) (then : n ≡ 0 → Own b' d') where
    with_directory : (k : ℕ) → (k ≡ 0 → ⊥) → ◌≡◌ {A = ℕ × ℕ × List ℕ} (n, v, b') (k, 0, b)
        → ◌≡◌ {A = ℕ × ℕ × List ℕ × List ℕ} (n, v, b', d') (k, 0, b, d)
    with_directory k some e =
        let is : n ≡ k = ap (λ (o : ℕ × ℕ × List ℕ). o.0) e in
        let q : d' ≡ d = (same (λ z. some (sym is ∙ z))).1 in
        λ i. ((e i).0, (e i).1, (e i).2, q i)

    pub kept_own : (Good b → Own b d) → First (λ n. (n, 0, b)) (block_needs b) Call (n, v, b') → KeptBy b d Call (n, v, b', d')
    unfolding KeptBy block_needs
    kept_own own told = by_own b d (λ n. (n, 0, b, d)) Left (n, v, b', d') own (go told)
      where
        kept_on : Own b d → Own b' d'
        kept_on o =
            elim (ℕ_discrete n 0) [
              | yes z ↦ then z
              | no some ↦ let e = same some in rw (e.0, e.1) o
            ]

        go : First (λ n. (n, 0, b)) (block_needs b) Call (n, v, b') → First (λ n. (n, 0, b, d)) (block_needs b) Left (n, v, b', d')
        go (inl p) = inl (p.0, with_directory 1 (λ z. omega arith) p.1)
        go (inr (s, inl p)) = inr (s, inl (p.0, with_directory 2 (λ z. omega arith) p.1))
        go (inr (s, inr (g, p))) = inr (s, inr (g, (p, kept_on (own g))))

-- ---- a message, plain or wide

-- It has the value 0.
abbrev pub Valued : List ℕ → Sent → ℕ × ℕ × List ℕ → Type 0
Valued b m o = (o.1 ≡ 0) × Sends b m (o.0, o.2)

pub valued_tests : (b : List ℕ) (m : Sent) → Tests {O = ℕ × ℕ × List ℕ} b (λ n. (n, 0, b)) (Valued b m)
unfolding block_needs
valued_tests b m o = ((λ p. there p.0 ((sent_tests b m (o.0, o.2)).0 p.1)), back)
  where
    there : o.1 ≡ 0 → First (λ n. (n, b)) (block_needs b) (Sends b m) (o.0, o.2) → First (λ n. (n, 0, b)) (block_needs b) (Valued b m) o
    there z (inl p) = inl (p.0, λ i. ((p.1 i).0, z i, (p.1 i).1))
    there z (inr (s, inl p)) = inr (s, inl (p.0, λ i. ((p.1 i).0, z i, (p.1 i).1)))
    there z (inr (s, inr (g, p))) = inr (s, inr (g, (z, p)))

    refused : (n : ℕ) → o ≡ (n, 0, b) → (o.1 ≡ 0) × (◌≡◌ {A = ℕ × List ℕ} (o.0, o.2) (n, b))
    refused n e = (ap (λ (o : ℕ × ℕ × List ℕ). o.1) e, λ i. ((e i).0, (e i).2))

    back : First (λ n. (n, 0, b)) (block_needs b) (Valued b m) o → Valued b m o
    back (inl p) = let r = refused 1 p.1 in (r.0, (sent_tests b m (o.0, o.2)).1 (inl (p.0, r.1)))
    back (inr (s, inl p)) = let r = refused 2 p.1 in (r.0, (sent_tests b m (o.0, o.2)).1 (inr (s, inl (p.0, r.1))))
    back (inr (s, inr (g, p))) = p

module _ (b : List ℕ) (m : Sent) (n : ℕ) (b' : List ℕ) (told : Sends b m (n, b')) where
  pub sent_same : (n ≡ 0 → ⊥) → b' ≡ b
  sent_same some = ap (λ (o : ℕ × List ℕ). o.1) (sent_unchanged b m (n, b') told (omega (arith, some))).1

  -- An accepted message found a good block, and leaves one.
  pub sent_good : n ≡ 0 → Good b × Good b'
  unfolding block_needs
  sent_good zero =
      let all = first_passed (λ n. (n, b)) (Sends b m) (n, b') (λ o. o.0) (λ n. refl) (block_needs b) (omega arith) zero ((sent_tests b m (n, b')).0 told) in
      (all.0.1.0, (stays_good b m (n, b') told all.0.1.0).0)

  pub sent_kept : (d d' : List ℕ) → (Good b → Own b d) → (n ≡ 0 → Own b' d') → ((n ≡ 0 → ⊥) → d' ≡ d) → SendsBy b d m (n, 0, b', d')
  unfolding SendsBy
  sent_kept d d' own then same =
      kept_own b d (Valued b m) n 0 b' d' (λ some. (sent_same some, same some)) then own ((valued_tests b m (n, 0, b')).0 (refl, told))

-- A directory that is not a good block's own is refused.
pub sent_other : (b d : List ℕ) (m : Sent) (n : ℕ) → (n ≡ 0 → ⊥) → Answers (directory_needs b d) n → SendsBy b d m (n, 0, b, d)
unfolding SendsBy
sent_other b d m n some told = kept_refused b d (Valued b m) some told

-- ---- a read

module _ (b : List ℕ) (kind x : ℕ) (text b' : List ℕ) where
  module _ (n v : ℕ) (told : ReadsSet b kind x text (n, v, b')) where
    pub read_same : (n ≡ 0 → ⊥) → b' ≡ b
    read_same some = (read_unchanged b kind x text (n, v, b') told (omega (arith, some))).0

    pub read_kept : (d d' : List ℕ) → (Good b → Own b d) → (n ≡ 0 → Own b' d') → ((n ≡ 0 → ⊥) → d' ≡ d)
        → ReadBy b d kind x text (n, v, b', d')
    unfolding ReadBy
    read_kept d d' own then same =
        kept_own b d (ReadsSet b kind x text) n v b' d' (λ some. (read_same some, same some)) then own ((read_tests b kind x text (n, v, b')).0 told)

  -- An accepted read found a good block, and leaves one.
  pub read_good : (v : ℕ) → ReadAnswers b kind x text (Ok v) b' → Good b × Good b'
  unfolding ReadAnswers ReadsSet set_needs block_needs
  read_good v told = let q = first_passed (λ n. (n, 0, b)) (ReadsText b (kind_of kind) x text) (0, v, b') (λ o. o.0) (λ n. refl) (set_needs b kind x) (omega arith) refl told in (q.0.1.0, go q.1)
    where
      go : ReadsText b (kind_of kind) x text (0, v, b') → Good b'
      go (inl q) = absurd (omega (arith, q.1))
      go (inr (es, w, inl f)) = absurd (omega (arith, ap (λ (o : ℕ × ℕ × List ℕ). o.0) f.1))
      go (inr (es, w, inr f)) = f.1.2.good

  -- The same for the answers of the code: of a set, and of no set.
  module _ (d : List ℕ) (own : Good b → Own b d) where
    pub took_set : (d' : List ℕ) (v : ℕ) → Own b' d' → ReadAnswers b kind x text (Ok v) b' → ReadAnswersBy b d kind x text (Ok v) b' d'
    unfolding ReadAnswers ReadAnswersBy
    took_set d' v then told = read_kept 0 v told d d' own (λ z. then) (λ some. absurd (some refl))

    pub took_none : (e : ReadError) → ReadAnswers b kind x text (Err e) b' → ReadAnswersBy b d kind x text (Err e) b' d
    unfolding ReadAnswers ReadAnswersBy
    took_none (NotASet place) told = read_kept 9 place told d d own (λ z. absurd (omega arith)) (λ some. refl)
    took_none (Refused e) told = read_kept (number e) 0 told d d own (λ z. absurd (is_some e z)) (λ some. refl)
