-- M-106: "A message or a read keeps the directory true, and it equals one made afresh." And a refusal leaves block and directory as they
-- came.
use Prim.Native.Nat.{ℕ}
use mathlib.Core.Path.{◌≡◌, refl, ap}
use mathlib.Core.List.{List}
use mathlib.Core.Logic.{inl, inr}
use native.Mathlib.Omega.{arith}
use Rattle.index.specs.Wide.{Sent}
use Rattle.index.specs.Calls.{block_needs, ReadsSet}
use Rattle.index.proofs.laws.Firsts.{first_passed}
use Rattle.directory.specs.Directory.{Own}
use Rattle.directory.specs.By.{directory_needs, making_needs, MakesDirectory, By, KeptBy, SendsBy, ReadBy}
use Rattle.directory.proofs.OneDirectory.{one_directory}
use Rattle.directory.proofs.Keeping.{Left, Valued, sent_same, read_same}

module _ (b d : List ℕ) (Call : ℕ × ℕ × List ℕ → Type 0) (o : ℕ × ℕ × List ℕ × List ℕ) where
  -- Accepted, the directory is that of the block then.
  pub kept_true : o.0 ≡ 0 → KeptBy b d Call o → Own o.2 o.3
  unfolding KeptBy By directory_needs block_needs
  kept_true zero k =
      (first_passed {O = ℕ × ℕ × List ℕ × List ℕ} (λ n. (n, 0, b, d)) (Left b d Call) o (λ o. o.0) (λ n. refl) (directory_needs b d)
      (omega arith) zero k).1.1

  -- Refused by the tests before the call, or by the call itself, which then leaves the block as it was.
  pub kept_unchanged : (Call (o.0, o.1, o.2) → o.2 ≡ b) → KeptBy b d Call o → (o.2 ≡ b) × (o.3 ≡ d)
  unfolding KeptBy By directory_needs block_needs
  kept_unchanged same k = go k
    where
      both : (n : ℕ) → o ≡ (n, 0, b, d) → (o.2 ≡ b) × (o.3 ≡ d)
      both n e = (ap (λ (o : ℕ × ℕ × List ℕ × List ℕ). o.2) e, ap (λ (o : ℕ × ℕ × List ℕ × List ℕ). o.3) e)

      go : KeptBy b d Call o → (o.2 ≡ b) × (o.3 ≡ d)
      go (inl p) = both 1 p.1
      go (inr (s, inl p)) = both 2 p.1
      go (inr (s, inr (g, inl p))) = both 13 p.1
      go (inr (s, inr (g, inr (own, p)))) = let e = same p.0 in (e, one_directory (rw e at p.1) own)

-- It equals one made afresh, whatever stood in the slice that it is made in.
pub afresh : {b d : List ℕ} (e d' : List ℕ) → Own b d → MakesDirectory b e (0, d') → d ≡ d'
unfolding MakesDirectory making_needs block_needs
afresh {b} e d' own made =
    one_directory own
    (first_passed {O = ℕ × List ℕ} (λ n. (n, e)) (λ o. (o.0 ≡ 0) × Own b o.1) (0, d') (λ o. o.0) (λ n. refl) (making_needs b e)
    (omega arith) refl made).1.1

-- ---- the calls

module _ (b d : List ℕ) (o : ℕ × ℕ × List ℕ × List ℕ) where
  pub sent_by_true : (m : Sent) → o.0 ≡ 0 → SendsBy b d m o → Own o.2 o.3
  unfolding SendsBy
  sent_by_true m = kept_true b d (Valued b m) o

  pub sent_by_unchanged : (m : Sent) → (o.0 ≡ 0 → ⊥) → SendsBy b d m o → (o.2 ≡ b) × (o.3 ≡ d)
  unfolding SendsBy
  sent_by_unchanged m some = kept_unchanged b d (Valued b m) o (λ p. sent_same b m o.0 o.2 p.1 some)

  module _ (kind x : ℕ) (text : List ℕ) where
    pub read_by_true : o.0 ≡ 0 → ReadBy b d kind x text o → Own o.2 o.3
    unfolding ReadBy
    read_by_true = kept_true b d (ReadsSet b kind x text) o

    pub read_by_unchanged : (o.0 ≡ 0 → ⊥) → ReadBy b d kind x text o → (o.2 ≡ b) × (o.3 ≡ d)
    unfolding ReadBy
    read_by_unchanged some = kept_unchanged b d (ReadsSet b kind x text) o (λ p. read_same b kind x text o.2 o.0 o.1 p some)
