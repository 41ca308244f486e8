-- Each public call has one possible answer: make, write_set and read_set. (For message: OneMessage.)
use Prim.Native.Nat.{ℕ, ◌<◌}
use mathlib.Core.Path.{◌≡◌, sym, ◌∙◌, subst}
use mathlib.Core.List.{List, [], ◌∷◌}
use Rattle.index.specs.declared.Kind.{Kind}
use Rattle.index.specs.Letters.{letter_count}
use Rattle.index.specs.Block.{count}
use Rattle.index.specs.Message.{kind_of}
use Rattle.index.specs.Numbers.{First}
use Rattle.index.specs.Text.{Entry, Replaced}
use Rattle.std.specs.Prelude.{Result}
use Rattle.index.specs.declared.refusals.Refusal.{Refusal}
use Rattle.index.specs.declared.refusals.ReadError.{ReadError}
use Rattle.index.specs.Calls.{WriteAnswers, ReadAnswers, make_needs, set_needs, write_needs, Made, Makes, Written, WritesSet, Read, RoomFor, OfNone, OfSet, ReadsText, ReadsSet}
use mathlib.Core.Logic.{inl, inr, ⊎_elim}
use native.Mathlib.Decide.{ℕ_discrete}
use Rattle.index.proofs.laws.block.ThreeKinds.{kind?}
use Rattle.index.proofs.laws.text.TextOnce.{writes_once}
use Rattle.index.proofs.laws.block.Canonical.{canonical}
use Rattle.index.proofs.laws.OneFirst.{one_first}
use Rattle.index.proofs.laws.OneResult.{answers_once, read_once}
use Rattle.index.proofs.laws.text.Placing.{place_once}
use Rattle.index.proofs.laws.demands.Standing.{no_count}

pub one_make : (b : List ℕ) (o o' : ℕ × List ℕ) → Makes b o → Makes b o' → o ≡ o'
unfolding Makes
one_make b =
    one_first (λ n. (n, b)) (make_needs b) (Made b)
    (λ o o' p q.
    let e : o.1 ≡ o'.1 =
    canonical p.1 q.1
    (λ kind x y k l. no_count kind x y k o.1 p.3 ∙ sym (no_count kind x y k o'.1 q.3)) (p.2 ∙ sym q.2) in
    let n : o.0 ≡ o'.0 = p.0 ∙ sym q.0 in
    λ i. (n i, e i))

pub one_write : (b : List ℕ) (kind x : ℕ) (out : List ℕ) (o o' : ℕ × ℕ × List ℕ) → WritesSet b kind x out o
    → WritesSet b kind x out o' → o ≡ o'
unfolding WritesSet
one_write b kind x out = one_first (λ n. (n, 0, out)) (write_needs b kind x out) (Written b kind x out) (λ o o' p q. p ∙ sym q)

-- There is one block only in which the set is replaced.
module _ {kind : Kind} {x : ℕ} {es : List Entry} {b b₁ b₂ : List ℕ} (p : Replaced kind x es b b₁) (q : Replaced kind x es b b₂) where
  one_key : (x' y k : ℕ) → k < letter_count → count b₁ kind x' y k ≡ count b₂ kind x' y k
  one_key x' y k l =
      elim (ℕ_discrete x' x) [
        | yes h ↦ rw h (p.set y k l ∙ sym (q.set y k l))
        | no h ↦ p.other_keys x' y k h l ∙ sym (q.other_keys x' y k h l)
      ]

  one_replaced : b₁ ≡ b₂
  one_replaced =
      canonical p.good q.good
      (λ K x' y k l.
      ⊎_elim (λ e. subst (λ (L : Kind). count b₁ L x' y k ≡ count b₂ L x' y k) (sym e) (one_key x' y k l))
      (λ n. p.other_kinds K x' y k n l ∙ sym (q.other_kinds K x' y k n l)) (kind? K kind))
      (p.same_length ∙ sym q.same_length)

module _ (b : List ℕ) (kind : Kind) (x : ℕ) (text : List ℕ) (o o' : ℕ × ℕ × List ℕ) where
  one_none : OfNone b kind text o → OfNone b kind text o' → o ≡ o'
  one_none (none, n, at, d) (none', n', at', d') =
      let p : o.1 ≡ o'.1 = place_once kind text o.1 o'.1 at at' in
      λ i. ((n ∙ sym n') i, p i, (d ∙ sym d') i)

  one_of : OfSet b kind x text o → OfSet b kind x text o' → o ≡ o'
  one_of (es, w, f) (es', w', f') =
      let e = writes_once kind text es es' w w' in
      one_first (λ n. (n, 0, b)) ((8, RoomFor b kind x es') ∷ []) (Read b kind x es')
      (λ o o' p q.
      let d : o.2 ≡ o'.2 = one_replaced p.2 q.2 in
      λ i. ((p.0 ∙ sym q.0) i, (p.1 ∙ sym q.1) i, d i))
      o o' (subst (λ (es : List Entry). First (λ n. (n, 0, b)) ((8, RoomFor b kind x es) ∷ []) (Read b kind x es) o) e f) f'

  one_text : ReadsText b kind x text o → ReadsText b kind x text o' → o ≡ o'
  one_text (inl p) (inl q) = one_none p q
  one_text (inl p) (inr q) = absurd (p.0 q.0 q.1)
  one_text (inr p) (inl q) = absurd (q.0 p.0 p.1)
  one_text (inr p) (inr q) = one_of p q

pub one_read : (b : List ℕ) (kind x : ℕ) (text : List ℕ) (o o' : ℕ × ℕ × List ℕ) → ReadsSet b kind x text o
    → ReadsSet b kind x text o' → o ≡ o'
unfolding ReadsSet
one_read b kind x text =
    one_first (λ n. (n, 0, b)) (set_needs b kind x) (ReadsText b (kind_of kind) x text) (one_text b (kind_of kind) x text)

-- ---- the same for the answers of the code

module _ (b : List ℕ) (kind x : ℕ) (s : List ℕ) where
  pub one_wrote : (r r' : Result ℕ Refusal) (o o' : List ℕ) → WriteAnswers b kind x s r o → WriteAnswers b kind x s r' o'
      → (r ≡ r') × (o ≡ o')
  unfolding WriteAnswers
  one_wrote = answers_once (λ n. n) 0 (λ n m e. e) (WritesSet b kind x s) (one_write b kind x s)

  pub one_took : (r r' : Result ℕ ReadError) (o o' : List ℕ) → ReadAnswers b kind x s r o → ReadAnswers b kind x s r' o'
      → (r ≡ r') × (o ≡ o')
  unfolding ReadAnswers
  one_took = read_once (ReadsSet b kind x s) (one_read b kind x s)
