-- A refusal changes nothing: its number is above 0, its value is 0 or, with 9, the place of the text, and each lent byte is as it
-- came.
use Prim.Native.Nat.{ℕ, ◌<◌}
use native.Mathlib.Omega.{arith}
use mathlib.Core.Path.{◌≡◌, refl}
use mathlib.Core.List.{List}
use Rattle.index.specs.Calls.{block_needs, set_needs, make_needs, write_needs, Made, Makes, Sends, Written, WritesSet, ReadsText, ReadsSet}
use mathlib.Core.Logic.{inl, inr}
use Rattle.index.specs.declared.Kind.{Kind}
use Rattle.index.specs.Numbers.{First}
use Rattle.index.specs.Message.{kind_of}
use Rattle.index.specs.Wide.{Sent}
use Rattle.index.specs.Text.{Place}
use Rattle.index.proofs.laws.OneFirst.{first_cases}
use Rattle.index.proofs.laws.Firsts.{Positive}
use Rattle.index.proofs.laws.message.OneMessage.{sent_cases, run_cases}

-- What is not accepted is a refusal with one of the numbers.
first_refused : {O : Type 0} (number : O → ℕ) (refusal : ℕ → O) (accepted : O → Type 0) → ((o : O) → accepted o → number o ≡ 0)
    → (ts : List (ℕ × Type 0)) → Positive ts → (o : O) → First refusal ts accepted o → 0 < number o → (n : ℕ) × (o ≡ refusal n)
first_refused number refusal accepted zero ts positive =
    first_cases (λ o. 0 < number o → (n : ℕ) × (o ≡ refusal n)) (λ n. 0 < n) refusal accepted (λ n l h. (n, refl))
    (λ o a h. absurd (omega (arith, zero o a))) ts positive

pub make_unchanged : (b : List ℕ) (o : ℕ × List ℕ) → Makes b o → 0 < o.0 → (n : ℕ) × (o ≡ (n, b))
unfolding Makes make_needs
make_unchanged b = first_refused {O = ℕ × List ℕ} (λ o. o.0) (λ n. (n, b)) (Made b) (λ o a. a.0) (make_needs b) (omega arith)

pub sent_unchanged : (b : List ℕ) (m : Sent) (o : ℕ × List ℕ) → Sends b m o → 0 < o.0 → (n : ℕ) × (o ≡ (n, b))
sent_unchanged b m =
    sent_cases b m (λ o. 0 < o.0 → (n : ℕ) × (o ≡ (n, b))) (λ n l h. (n, refl))
    (run_cases (λ _ cs c o. 0 < o.0 → (n : ℕ) × (o ≡ (n, b))) b (λ cs c n l h. (n, refl)) (λ c h. absurd (omega arith))
    (λ c cs d e o w p. p) _ b)

pub write_unchanged : (b : List ℕ) (kind x : ℕ) (out : List ℕ) (o : ℕ × ℕ × List ℕ) → WritesSet b kind x out o → 0 < o.0
    → (n : ℕ) × (o ≡ (n, 0, out))
unfolding WritesSet write_needs set_needs block_needs
write_unchanged b kind x out =
    first_refused {O = ℕ × ℕ × List ℕ} (λ o. o.0) (λ n. (n, 0, out)) (Written b kind x out) (λ o a. rw a) (write_needs b kind x out) (omega arith)

-- With 9 the value is the place of the text, with any other number it is 0.
abbrev pub Kept : List ℕ → Kind → List ℕ → (ℕ × ℕ × List ℕ) → Type 0
Kept b kind text o = (o.2 ≡ b) × (o.0 ≡ 9 → Place kind text o.1) × ((o.0 ≡ 9 → ⊥) → o.1 ≡ 0)

text_kept : (b : List ℕ) (kind : Kind) (x : ℕ) (text : List ℕ) (o : ℕ × ℕ × List ℕ) → ReadsText b kind x text o → 0 < o.0 → Kept b kind text o
text_kept b kind x text o (inl (none, n, at, d)) h = (d, (λ e. at), λ q. absurd (q n))
text_kept b kind x text o (inr (es, w, inl f)) h = rw f.1 (refl, (λ e. absurd (omega arith)), λ q. refl)
text_kept b kind x text o (inr (es, w, inr f)) h = absurd (omega (arith, f.1.0))

pub read_unchanged : (b : List ℕ) (kind x : ℕ) (text : List ℕ) (o : ℕ × ℕ × List ℕ) → ReadsSet b kind x text o → 0 < o.0
    → Kept b (kind_of kind) text o
unfolding ReadsSet set_needs block_needs
read_unchanged b kind x text =
    first_cases (λ o. 0 < o.0 → Kept b (kind_of kind) text o) (λ n. n ≡ 9 → ⊥) (λ n. (n, 0, b)) (ReadsText b (kind_of kind) x text)
    (λ n q h. (refl, (λ e. absurd (q e)), λ q. refl)) (text_kept b (kind_of kind) x text) (set_needs b kind x) (omega arith)
