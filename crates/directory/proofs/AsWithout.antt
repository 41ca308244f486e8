-- M-106: "Answers through the directory are proved equal to answers without it, once over all three parts."
use Prim.Native.Nat.{ℕ}
use mathlib.Core.Path.{◌≡◌, ap}
use mathlib.Core.List.{List}
use mathlib.Core.Logic.{◌↔◌, inl, inr}
use native.Mathlib.Omega.{arith}
use Rattle.std.specs.Prelude.{Result, Ok, Err}
use Rattle.index.specs.declared.refusals.Refusal.{Refusal}
use Rattle.index.specs.declared.refusals.Refusal.TheVariants.{Directory}
use Rattle.index.specs.declared.refusals.ReadError.{ReadError}
use Rattle.index.specs.declared.refusals.ReadError.TheVariants.{NotASet, Refused}
use Rattle.index.specs.Numbers.{First, number}
use Rattle.index.proofs.laws.Refusing.{once}
use Rattle.index.specs.Wide.{Sent}
use Rattle.index.specs.Calls.{block_needs, Sends, WritesSet, ReadsSet, WriteAnswers, ReadAnswers}
use Rattle.index.proofs.laws.message.OneMessage.{one_sent}
use Rattle.index.proofs.laws.demands.OneCall.{one_wrote, one_took}
use Rattle.directory.specs.Directory.{Own}
use Rattle.directory.specs.By.{directory_needs, By, KeptBy, SendsBy, ReadBy, WriteBy, WriteAnswersBy, ReadAnswersBy}
use Rattle.directory.proofs.Passing.{Tests, read_tests, write_tests}
use Rattle.directory.proofs.Keeping.{Valued, valued_tests}

module _ {O : Type 0} (b d : List ℕ) (refused : ℕ → O) where
  -- On every input on which 13 is not given, what comes of a call by the directory comes of the call without it.
  module _ (Call : O → Type 0) (tests : Tests b refused Call) (o : O) where
    pub as_without : (o ≡ refused 13 → ⊥) → By b d refused Call o → Call o
    unfolding By directory_needs block_needs
    as_without not13 (inl p) = (tests o).1 (inl p)
    as_without not13 (inr (s, inl p)) = (tests o).1 (inr (s, inl p))
    as_without not13 (inr (s, inr (g, inl p))) = absurd (not13 p.1)
    as_without not13 (inr (s, inr (g, inr (w, p)))) = p

    -- By the block's own directory, both ways.
    pub own_as_without : Own b d → By b d refused Call o ↔ Call o
    unfolding By directory_needs block_needs
    own_as_without own = (there, λ p. back ((tests o).0 p))
      where
        there : By b d refused Call o → Call o
        there (inl p) = (tests o).1 (inl p)
        there (inr (s, inl p)) = (tests o).1 (inr (s, inl p))
        there (inr (s, inr (g, inl p))) = absurd (p.0 own)
        there (inr (s, inr (g, inr (w, p)))) = p

        back : First refused (block_needs b) Call o → By b d refused Call o
        back (inl p) = inl p
        back (inr (s, inl p)) = inr (s, inl p)
        back (inr (s, inr (g, p))) = inr (s, inr (g, inr (own, p)))

-- Of a call that changes the block: its number, its value and its block.
pub kept_as_without : (b d : List ℕ) (Call : ℕ × ℕ × List ℕ → Type 0) → Tests b (λ n. (n, 0, b)) Call → (o : ℕ × ℕ × List ℕ × List ℕ)
    → (o.0 ≡ 13 → ⊥) → KeptBy b d Call o → Call (o.0, o.1, o.2)
unfolding KeptBy By directory_needs block_needs
kept_as_without b d Call tests o not13 k = go k
  where
    front : (n : ℕ) → o ≡ (n, 0, b, d) → ◌≡◌ {A = ℕ × ℕ × List ℕ} (o.0, o.1, o.2) (n, 0, b)
    front n e = λ i. ((e i).0, (e i).1, (e i).2)

    go : KeptBy b d Call o → Call (o.0, o.1, o.2)
    go (inl p) = (tests (o.0, o.1, o.2)).1 (inl (p.0, front 1 p.1))
    go (inr (s, inl p)) = (tests (o.0, o.1, o.2)).1 (inr (s, inl (p.0, front 2 p.1)))
    go (inr (s, inr (g, inl p))) = absurd (not13 (ap (λ (o : ℕ × ℕ × List ℕ × List ℕ). o.0) p.1))
    go (inr (s, inr (g, inr (w, p)))) = p.0

-- ---- the calls: their answers are those of the calls without a directory

module _ (b d : List ℕ) where
  pub same_sent : (m : Sent) (n n' : ℕ) (b₁ b₂ d₁ : List ℕ) → (n ≡ 13 → ⊥) → SendsBy b d m (n, 0, b₁, d₁) → Sends b m (n', b₂)
      → (n ≡ n') × (b₁ ≡ b₂)
  unfolding SendsBy
  same_sent m n n' b₁ b₂ d₁ not13 p q =
      let e = one_sent b m (n, b₁) (n', b₂) (kept_as_without b d (Valued b m) (valued_tests b m) (n, 0, b₁, d₁) not13 p).1 q in
      (ap (λ (o : ℕ × List ℕ). o.0) e, ap (λ (o : ℕ × List ℕ). o.1) e)

  module _ (kind x : ℕ) (s : List ℕ) where
    pub read_without : (b₁ d₁ : List ℕ) (r : Result ℕ ReadError) → (r ≡ Err (Refused Directory) → ⊥) → ReadAnswersBy b d kind x s r b₁ d₁ → ReadAnswers b kind x s r b₁
    unfolding ReadAnswers ReadAnswersBy ReadBy
    read_without b₁ d₁ (Ok v) not13 p =
        kept_as_without b d (ReadsSet b kind x s) (read_tests b kind x s) (0, v, b₁, d₁) (λ e. omega arith) p
    read_without b₁ d₁ (Err (NotASet place)) not13 p =
        kept_as_without b d (ReadsSet b kind x s) (read_tests b kind x s) (9, place, b₁, d₁) (λ e. omega arith) p
    read_without b₁ d₁ (Err (Refused e)) not13 p =
        kept_as_without b d (ReadsSet b kind x s) (read_tests b kind x s) (number e, 0, b₁, d₁)
        (λ q. not13 (ap (λ (r : Refusal). Err (Refused r)) (once e Directory q))) p

    pub same_read : (r r' : Result ℕ ReadError) (b₁ b₂ d₁ : List ℕ) → (r ≡ Err (Refused Directory) → ⊥) → ReadAnswersBy b d kind x s r b₁ d₁
        → ReadAnswers b kind x s r' b₂ → (r ≡ r') × (b₁ ≡ b₂)
    same_read r r' b₁ b₂ d₁ not13 p q = one_took b kind x s r r' b₁ b₂ (read_without b₁ d₁ r not13 p) q

    pub write_without : (s₁ : List ℕ) (r : Result ℕ Refusal) → (r ≡ Err Directory → ⊥) → WriteAnswersBy b d kind x s r s₁ → WriteAnswers b kind x s r s₁
    unfolding WriteAnswers WriteAnswersBy WriteBy
    write_without s₁ (Ok v) not13 p =
        as_without b d (λ n. (n, 0, s)) (WritesSet b kind x s) (write_tests b kind x s) (0, v, s₁)
        (λ e. omega (arith, ap (λ (o : ℕ × ℕ × List ℕ). o.0) e)) p
    write_without s₁ (Err e) not13 p =
        as_without b d (λ n. (n, 0, s)) (WritesSet b kind x s) (write_tests b kind x s) (number e, 0, s₁)
        (λ q. not13 (ap Err (once e Directory (ap (λ (o : ℕ × ℕ × List ℕ). o.0) q)))) p

    pub same_write : (r r' : Result ℕ Refusal) (s₁ s₂ : List ℕ) → (r ≡ Err Directory → ⊥) → WriteAnswersBy b d kind x s r s₁
        → WriteAnswers b kind x s r' s₂ → (r ≡ r') × (s₁ ≡ s₂)
    same_write r r' s₁ s₂ not13 p q = one_wrote b kind x s r r' s₁ s₂ (write_without s₁ r not13 p) q
