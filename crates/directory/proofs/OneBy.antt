-- A call by a directory has one outcome, since the call without it has one.
use Prim.Native.Nat.{ℕ}
use mathlib.Core.Path.{◌≡◌, sym, ap, ◌∙◌}
use mathlib.Core.List.{List}
use Rattle.std.specs.Prelude.{Result}
use Rattle.index.specs.declared.refusals.Refusal.{Refusal}
use Rattle.index.specs.declared.refusals.ReadError.{ReadError}
use Rattle.index.specs.Numbers.{Answers}
use Rattle.index.specs.Wide.{Sent}
use Rattle.index.specs.Calls.{WritesSet, ReadsSet}
use Rattle.index.proofs.laws.OneFirst.{one_first}
use Rattle.index.proofs.laws.message.OneMessage.{one_sent}
use Rattle.index.proofs.laws.demands.OneCall.{one_write, one_read}
use Rattle.index.proofs.laws.OneResult.{answers_once, read_once}
use Rattle.directory.specs.Directory.{Own}
use Rattle.directory.specs.By.{making_needs, MakesDirectory, directory_needs, By, KeptBy, SendsBy, ReadBy, WriteBy, WriteAnswersBy, ReadAnswersBy}
use Rattle.directory.proofs.OneDirectory.{one_directory}
use Rattle.directory.proofs.Keeping.{Left, Valued}

pub one_tested_by : (b d : List ℕ) (r s : ℕ) → Answers (directory_needs b d) r → Answers (directory_needs b d) s → r ≡ s
one_tested_by b d = one_first (λ n. n) (directory_needs b d) (λ n. n ≡ 0) (λ r s p q. p ∙ sym q)

pub one_made : (b d : List ℕ) (o o' : ℕ × List ℕ) → MakesDirectory b d o → MakesDirectory b d o' → o ≡ o'
unfolding MakesDirectory
one_made b d =
    one_first (λ n. (n, d)) (making_needs b d) (λ o. (o.0 ≡ 0) × Own b o.1)
    (λ o o' p q.
    let n : o.0 ≡ o'.0 = p.0 ∙ sym q.0 in
    let e : o.1 ≡ o'.1 = one_directory p.1 q.1 in
    λ i. (n i, e i))

pub one_by : {O : Type 0} (b d : List ℕ) (refused : ℕ → O) (Call : O → Type 0) → ((o o' : O) → Call o → Call o' → o ≡ o') → (o o' : O)
    → By b d refused Call o → By b d refused Call o' → o ≡ o'
unfolding By
one_by b d refused Call = one_first refused (directory_needs b d) Call

pub one_kept : (b d : List ℕ) (Call : ℕ × ℕ × List ℕ → Type 0) → ((o o' : ℕ × ℕ × List ℕ) → Call o → Call o' → o ≡ o')
    → (o o' : ℕ × ℕ × List ℕ × List ℕ) → KeptBy b d Call o → KeptBy b d Call o' → o ≡ o'
unfolding KeptBy
one_kept b d Call one =
    one_by b d (λ n. (n, 0, b, d)) (Left b d Call)
    (λ o o' p q.
    let e = one (o.0, o.1, o.2) (o'.0, o'.1, o'.2) p.0 q.0 in
    let block : o.2 ≡ o'.2 = ap (λ (o : ℕ × ℕ × List ℕ). o.2) e in
    let own : o.3 ≡ o'.3 = one_directory (rw block at p.1) q.1 in
    λ i. ((e i).0, (e i).1, (e i).2, own i))

-- ---- the calls

module _ (b d : List ℕ) where
  pub one_sent_by : (m : Sent) (o o' : ℕ × ℕ × List ℕ × List ℕ) → SendsBy b d m o → SendsBy b d m o' → o ≡ o'
  unfolding SendsBy
  one_sent_by m =
      one_kept b d (Valued b m)
      (λ o o' p q.
      let e = one_sent b m (o.0, o.2) (o'.0, o'.2) p.1 q.1 in
      let v : o.1 ≡ o'.1 = p.0 ∙ sym q.0 in
      λ i. ((e i).0, v i, (e i).1))

  module _ (kind x : ℕ) (s : List ℕ) where
    pub one_read_by : (o o' : ℕ × ℕ × List ℕ × List ℕ) → ReadBy b d kind x s o → ReadBy b d kind x s o' → o ≡ o'
    unfolding ReadBy
    one_read_by = one_kept b d (ReadsSet b kind x s) (one_read b kind x s)

    pub one_write_by : (o o' : ℕ × ℕ × List ℕ) → WriteBy b d kind x s o → WriteBy b d kind x s o' → o ≡ o'
    unfolding WriteBy
    one_write_by = one_by b d (λ n. (n, 0, s)) (WritesSet b kind x s) (one_write b kind x s)

    -- The same for the answers of the code.
    pub one_wrote_by : (r r' : Result ℕ Refusal) (o o' : List ℕ) → WriteAnswersBy b d kind x s r o → WriteAnswersBy b d kind x s r' o'
        → (r ≡ r') × (o ≡ o')
    unfolding WriteAnswersBy
    one_wrote_by = answers_once (λ n. n) 0 (λ n m e. e) (WriteBy b d kind x s) one_write_by

    pub one_took_by : (r r' : Result ℕ ReadError) (b₁ b₂ d₁ d₂ : List ℕ) → ReadAnswersBy b d kind x s r b₁ d₁ → ReadAnswersBy b d kind x s r' b₂ d₂
        → (r ≡ r') × (b₁ ≡ b₂) × (d₁ ≡ d₂)
    unfolding ReadAnswersBy
    one_took_by r r' b₁ b₂ d₁ d₂ p q =
        let e =
        read_once {S = List ℕ × List ℕ} (λ o. ReadBy b d kind x s (o.0, o.1, o.2.0, o.2.1))
        (λ o o' p q.
        let e = one_read_by (o.0, o.1, o.2.0, o.2.1) (o'.0, o'.1, o'.2.0, o'.2.1) p q in
        λ i. ((e i).0, (e i).1, ((e i).2, (e i).3))) r r' (b₁, d₁) (b₂, d₂) p q in
        (e.0, ap (λ (s : List ℕ × List ℕ). s.0) e.1, ap (λ (s : List ℕ × List ℕ). s.1) e.1)
