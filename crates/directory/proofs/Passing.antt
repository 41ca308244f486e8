-- A call by a directory: refused by the tests of the block and of the directory, or as the call without it.
use Prim.Native.Nat.{ℕ, ◌≤◌}
use mathlib.Core.Path.{◌≡◌}
use mathlib.Core.List.{List, [], ◌∷◌, ◌++◌}
use mathlib.Core.Logic.{◌↔◌, inl, inr}
use native.Mathlib.Omega.{arith}
use lib.ListN.{length}
use Rattle.std.specs.Prelude.{Result}
use Rattle.index.specs.declared.refusals.Refusal.{Refusal}
use Rattle.index.specs.Numbers.{First, Answers}
use Rattle.index.specs.Block.{IsName, Sized, Good}
use Rattle.index.specs.Message.{IsKind, kind_of}
use Rattle.index.specs.Wide.{Sent}
use Rattle.index.specs.Text.{text_of, set_of}
use Rattle.index.specs.Calls.{block_needs, sent_needs, Sends, set_needs, write_needs, Written, WritesSet, WriteAnswers, ReadsSet}
use Rattle.index.proofs.laws.Firsts.{first_map, first_all, refuses, passed}
use Rattle.directory.specs.Directory.{Own}
use Rattle.index.proofs.laws.Refusing.{means_map}
use Rattle.directory.specs.By.{directory_needs, By, WriteBy, WriteAnswersBy}

-- ---- a call tests the block first

-- That the requirements at the front come first may be said twice.
module _ {O : Type 0} (refused : ℕ → O) (us : List (ℕ × Type 0)) (accepted : O → Type 0) (o : O) where
  pub twice : (ts : List (ℕ × Type 0)) → First refused (ts ++ us) accepted o → First refused ts (First refused (ts ++ us) accepted) o
  twice [] p = p
  twice (t ∷ ts) (inl p) = inl p
  twice (t ∷ ts) (inr (h, p)) =
      inr (h, first_map refused (First refused (ts ++ us) accepted) o (First refused (t ∷ (ts ++ us)) accepted) ts (λ q. inr (h, q)) (twice ts p))

  pub once : (ts : List (ℕ × Type 0)) → First refused ts (First refused (ts ++ us) accepted) o → First refused (ts ++ us) accepted o
  once [] p = p
  once (t ∷ ts) (inl p) = inl p
  once (t ∷ ts) (inr (h, p)) =
      inr (h, once ts (first_map refused (First refused (t ∷ (ts ++ us)) accepted) o (First refused (ts ++ us) accepted) ts later p))
    where
      later : First refused (t ∷ (ts ++ us)) accepted o → First refused (ts ++ us) accepted o
      later (inl q) = absurd (q.0 h)
      later (inr q) = q.1

-- The call gives 1 and 2 for the block before anything else.
abbrev pub Tests : {O : Type 0} → List ℕ → (ℕ → O) → (O → Type 0) → Type 0
Tests {O} b refused Call = (o : O) → Call o ↔ First refused (block_needs b) Call o

pub tests : {O : Type 0} (b : List ℕ) (refused : ℕ → O) (us : List (ℕ × Type 0)) (accepted : O → Type 0)
    → Tests b refused (First refused (block_needs b ++ us) accepted)
tests b refused us accepted o = (twice refused us accepted o (block_needs b), once refused us accepted o (block_needs b))

pub sent_tests : (b : List ℕ) (m : Sent) → Tests {O = ℕ × List ℕ} b (λ n. (n, b)) (Sends b m)
unfolding Sends sent_needs
sent_tests b m = tests b (λ n. (n, b)) _ _

module _ (b : List ℕ) (kind x : ℕ) (s : List ℕ) where
  pub read_tests : Tests {O = ℕ × ℕ × List ℕ} b (λ n. (n, 0, b)) (ReadsSet b kind x s)
  unfolding ReadsSet set_needs
  read_tests = tests b (λ n. (n, 0, b)) _ _

  pub write_tests : Tests {O = ℕ × ℕ × List ℕ} b (λ n. (n, 0, s)) (WritesSet b kind x s)
  unfolding WritesSet write_needs set_needs block_needs
  write_tests =
      tests b (λ n. (n, 0, s)) ((3, IsKind kind) ∷ (4, IsName x) ∷ (10, length (text_of (set_of b (kind_of kind) x)) ≤ length s) ∷ [])
      (Written b kind x s)

-- ---- what the tests say

-- Where they are passed.
pub record Fit (b d : List ℕ) : Type 0 where
  pub sized : Sized b
  pub good : Good b
  pub own : Own b d

pub fit : (b d : List ℕ) {n : ℕ} → n ≡ 0 → Answers (directory_needs b d) n → Fit b d
unfolding directory_needs block_needs
fit b d e a =
    let all = passed (directory_needs b d) (omega arith) e a in
    record { sized = all.0; good = all.1.0; own = all.1.1.0 }

module _ {O : Type 0} (b d : List ℕ) (refused : ℕ → O) (Call : O → Type 0) where
  pub by_refused : {n : ℕ} → (n ≡ 0 → ⊥) → Answers (directory_needs b d) n → By b d refused Call (refused n)
  unfolding By
  by_refused some a = refuses refused Call (directory_needs b d) some a

  pub by_fit : (o : O) → Fit b d → Call o → By b d refused Call o
  unfolding By directory_needs block_needs
  by_fit o f h = first_all refused Call o (directory_needs b d) (f.sized, (f.good, (f.own, tt))) h

  -- The call itself tests the block, and where it is good the directory is its own.
  pub by_own : (o : O) → (Good b → Own b d) → First refused (block_needs b) Call o → By b d refused Call o
  unfolding By directory_needs block_needs
  by_own o own (inl p) = inl p
  by_own o own (inr (s, inl p)) = inr (s, inl p)
  by_own o own (inr (s, inr (g, p))) = inr (s, inr (g, inr (own g, p)))

-- Where the directory is a good block's own, the tests of the block decide.
pub tested_own : (b d : List ℕ) (n : ℕ) → (Good b → Own b d) → Answers (block_needs b) n → Answers (directory_needs b d) n
unfolding directory_needs block_needs
tested_own b d n own (inl p) = inl p
tested_own b d n own (inr (s, inl p)) = inr (s, inl p)
tested_own b d n own (inr (s, inr (g, p))) = inr (s, inr (g, inr (own g, p)))

-- ---- writing

pub write_by_own : (b d : List ℕ) (kind x : ℕ) (out : List ℕ) (r : Result ℕ Refusal) (out' : List ℕ) → (Good b → Own b d)
    → WriteAnswers b kind x out r out' → WriteAnswersBy b d kind x out r out'
unfolding WriteAnswers WriteAnswersBy WriteBy
write_by_own b d kind x out r out' own =
    means_map (λ n. n) 0 _ _
    (λ o p. by_own b d (λ n. (n, 0, out)) (WritesSet b kind x out) (o.0, o.1, out') own ((write_tests b kind x out (o.0, o.1, out')).0 p)) r
