-- A change, a run of changes and a message, plain or wide, have one outcome.
use Prim.Native.Nat.{ℕ, ◌<◌}
use native.Mathlib.Omega.{arith}
use mathlib.Core.Path.{◌≡◌, sym, ◌∙◌}
use mathlib.Core.List.{List, [], ◌∷◌}
use Rattle.index.specs.Message.{Change, Changed, Carried, change_needs, changes, packed_changes}
use Rattle.index.specs.Wide.{Sent, previous_of, new_of}
use Rattle.index.specs.Calls.{Sends, CarriesOut, block_needs, sent_needs, list_needs}
use Rattle.index.proofs.laws.block.Canonical.{canonical}
use Rattle.index.proofs.laws.OneFirst.{one_first, first_cases}
use Rattle.index.proofs.laws.Firsts.{Positive}

pub one_change : {c : Change} {b b₁ b₂ : List ℕ} → Changed c b b₁ → Changed c b b₂ → b₁ ≡ b₂
one_change p q =
    canonical p.good q.good (λ kind x y k l. omega (arith, p.counts kind x y k l, q.counts kind x y k l))
    (p.same_length ∙ sym q.same_length)

pub one_run : (b₀ : List ℕ) (cs : List Change) (b : List ℕ) (o o' : ℕ × List ℕ) → Carried b₀ cs b o → Carried b₀ cs b o' → o ≡ o'
unfolding Carried
one_run b₀ [] b o o' p q = p ∙ sym q
one_run b₀ (c ∷ cs) b o o' p q =
    one_first (λ n. (n, b₀)) (change_needs c b) (λ p. (b₁ : List ℕ) × Changed c b b₁ × Carried b₀ cs b₁ p)
    (λ o o' s t. one_run b₀ cs t.0 o o' (rw (one_change s.1 t.1) at s.2) t.2) o o' p q

pub one_sent : (b : List ℕ) (m : Sent) (o o' : ℕ × List ℕ) → Sends b m o → Sends b m o' → o ≡ o'
unfolding Sends
one_sent b m =
    one_first (λ n. (n, b)) (sent_needs b m) (Carried b (changes (previous_of m) (new_of m)) b) (one_run b (changes (previous_of m) (new_of m)) b)

pub one_list : (b cs : List ℕ) (o o' : ℕ × List ℕ) → CarriesOut b cs o → CarriesOut b cs o' → o ≡ o'
unfolding CarriesOut
one_list b cs = one_first (λ n. (n, b)) (list_needs b cs) (Carried b (packed_changes cs) b) (one_run b (packed_changes cs) b)

pub changes_positive : (c : Change) (b : List ℕ) → Positive (change_needs c b)
unfolding change_needs
changes_positive (Change.take h) b = omega arith
changes_positive (Change.add h) b = omega arith

-- What holds of every outcome of a run: of the refusals, and of all that goes step by step to the end.
module _ (P : List ℕ → List Change → List ℕ → ℕ × List ℕ → Type 0) (b₀ : List ℕ)
    (u : (cs : List Change) (b : List ℕ) (n : ℕ) → 0 < n → P b₀ cs b (n, b₀)) (v : (b : List ℕ) → P b₀ [] b (0, b))
    (w : (c : Change) (cs : List Change) (b b₁ : List ℕ) (o : ℕ × List ℕ) → Changed c b b₁ → P b₀ cs b₁ o → P b₀ (c ∷ cs) b o) where
  pub run_cases : (cs : List Change) (b : List ℕ) (o : ℕ × List ℕ) → Carried b₀ cs b o → P b₀ cs b o
  unfolding Carried
  run_cases [] b o h = rw h (v b)
  run_cases (c ∷ cs) b o h =
      first_cases (P b₀ (c ∷ cs) b) (λ n. 0 < n) (λ n. (n, b₀)) (λ p. (b₁ : List ℕ) × Changed c b b₁ × Carried b₀ cs b₁ p) (u (c ∷ cs) b)
      (λ o h. w c cs b h.0 o h.1 (run_cases cs h.0 o h.2)) (change_needs c b) (changes_positive c b) o h

-- A message is refused, and the block is what it was, or its changes are run.
pub sent_cases : (b : List ℕ) (m : Sent) (P : ℕ × List ℕ → Type 0) → ((n : ℕ) → 0 < n → P (n, b))
    → ((o : ℕ × List ℕ) → Carried b (changes (previous_of m) (new_of m)) b o → P o) → (o : ℕ × List ℕ) → Sends b m o → P o
unfolding Sends sent_needs block_needs
sent_cases b m P u v =
    first_cases P (λ n. 0 < n) (λ n. (n, b)) (Carried b (changes (previous_of m) (new_of m)) b) u v (sent_needs b m) (omega arith)
