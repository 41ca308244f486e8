-- The code has one answer to any call with one outcome: its number, its value, and what it leaves.
use Prim.Native.Nat.{ℕ}
use mathlib.Core.Path.{◌≡◌, refl, sym, ap}
use mathlib.Core.Bool.{Bool, true, false}
use native.Mathlib.Omega.{arith}
use Rattle.std.specs.Prelude.{Result, Ok, Err}
use Rattle.index.specs.declared.refusals.Refusal.{Refusal}
use Rattle.index.specs.declared.refusals.ReadError.{ReadError}
use Rattle.index.specs.declared.refusals.ReadError.TheVariants.{NotASet, Refused}
use Rattle.index.specs.Numbers.{yes_no, Means, ReadMeans}
use Rattle.index.proofs.laws.Refusing.{some, once, not_9}

module _ {V S : Type 0} (Outcome : ℕ × V × S → Type 0) (one : (o o' : ℕ × V × S) → Outcome o → Outcome o' → o ≡ o') where
  module _ {n m : ℕ} {v w : V} {s t : S} (p : Outcome (n, v, s)) (q : Outcome (m, w, t)) where
    pub same : (n ≡ m) × (v ≡ w) × (s ≡ t)
    same = let e = one _ _ p q in (ap (λ (o : ℕ × V × S). o.0) e, ap (λ (o : ℕ × V × S). o.1) e, ap (λ (o : ℕ × V × S). o.2) e)

    pub not_both : (n ≡ m → ⊥) → ⊥
    not_both d = d same.0

-- A value stands for one answer.
module _ {A V S : Type 0} (value : A → V) (none : V) (one_value : (a b : A) → value a ≡ value b → a ≡ b) (Outcome : ℕ × V × S → Type 0) (one : (o o' : ℕ × V × S) → Outcome o → Outcome o' → o ≡ o') where
  pub answers_once : (r r' : Result A Refusal) (s t : S) → Means value none (λ o. Outcome (o.0, o.1, s)) r → Means value none (λ o. Outcome (o.0, o.1, t)) r'
      → (r ≡ r') × (s ≡ t)
  answers_once (Ok a) (Ok b) s t p q = let e = same Outcome one p q in (ap Ok (one_value a b e.1), e.2)
  answers_once (Ok a) (Err e) s t p q = absurd (not_both Outcome one p q (λ z. some e (sym z)))
  answers_once (Err e) (Ok a) s t p q = absurd (not_both Outcome one p q (some e))
  answers_once (Err e) (Err f) s t p q = let z = same Outcome one p q in (ap Err (once e f z.0), z.2)

-- Of two calls that leave nothing: where every two outcomes of P and of Q are the same, so are the answers.
module _ {A V : Type 0} (value : A → V) (none : V) (one_value : (a b : A) → value a ≡ value b → a ≡ b) where
  pub means_same : (P Q : ℕ × V → Type 0) → ((o o' : ℕ × V) → P o → Q o' → o ≡ o') → (r r' : Result A Refusal) → Means value none P r → Means value none Q r'
      → r ≡ r'
  means_same P Q same (Ok a) (Ok b) p q = ap Ok (one_value a b (ap (λ (o : ℕ × V). o.1) (same _ _ p q)))
  means_same P Q same (Ok a) (Err e) p q = absurd (some e (sym (ap (λ (o : ℕ × V). o.0) (same _ _ p q))))
  means_same P Q same (Err e) (Ok a) p q = absurd (some e (ap (λ (o : ℕ × V). o.0) (same _ _ p q)))
  means_same P Q same (Err e) (Err f) p q = ap Err (once e f (ap (λ (o : ℕ × V). o.0) (same _ _ p q)))

  -- The same of one call.
  pub answer_once : (Outcome : ℕ × V → Type 0) → ((o o' : ℕ × V) → Outcome o → Outcome o' → o ≡ o') → (r r' : Result A Refusal) → Means value none Outcome r
      → Means value none Outcome r' → r ≡ r'
  answer_once Outcome = means_same Outcome Outcome

-- Yes and no have two values.
pub one_yes_no : (a b : Bool) → yes_no a ≡ yes_no b → a ≡ b
one_yes_no true true e = refl
one_yes_no true false e = absurd (omega arith)
one_yes_no false true e = absurd (omega arith)
one_yes_no false false e = refl

-- A reader: no refusal has the number 9.
module _ {S : Type 0} (Outcome : ℕ × ℕ × S → Type 0) (one : (o o' : ℕ × ℕ × S) → Outcome o → Outcome o' → o ≡ o') where
  pub read_once : (r r' : Result ℕ ReadError) (s t : S) → ReadMeans (λ o. Outcome (o.0, o.1, s)) r → ReadMeans (λ o. Outcome (o.0, o.1, t)) r'
      → (r ≡ r') × (s ≡ t)
  read_once (Ok n) (Ok m) s t p q = let e = same Outcome one p q in (ap Ok e.1, e.2)
  read_once (Err (NotASet n)) (Err (NotASet m)) s t p q = let e = same Outcome one p q in (ap (λ (k : ℕ). Err (NotASet k)) e.1, e.2)
  read_once (Err (Refused e)) (Err (Refused f)) s t p q =
      let z = same Outcome one p q in (ap (λ (k : Refusal). Err (Refused k)) (once e f z.0), z.2)
  read_once (Ok n) (Err (NotASet m)) s t p q = absurd (not_both Outcome one p q (λ z. omega arith))
  read_once (Err (NotASet n)) (Ok m) s t p q = absurd (not_both Outcome one p q (λ z. omega arith))
  read_once (Ok n) (Err (Refused e)) s t p q = absurd (not_both Outcome one p q (λ z. some e (sym z)))
  read_once (Err (Refused e)) (Ok m) s t p q = absurd (not_both Outcome one p q (some e))
  read_once (Err (NotASet n)) (Err (Refused e)) s t p q = absurd (not_both Outcome one p q (λ z. not_9 e (sym z)))
  read_once (Err (Refused e)) (Err (NotASet n)) s t p q = absurd (not_both Outcome one p q (not_9 e))
