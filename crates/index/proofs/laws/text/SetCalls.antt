-- What the two calls on sets answer, case by case.
use Prim.Native.Nat.{ℕ, ◌+◌, ◌<◌, ◌≤◌}
use mathlib.Core.Path.{◌≡◌, refl, sym, ap, ◌∙◌, subst}
use mathlib.Core.List.{List, ◌++◌}
use mathlib.Core.Logic.{inl, inr}
use native.Mathlib.Omega.{arith}
use lib.ListN.{length, drop}
use lib.Seq.{sets, sets-eq}
use Rattle.index.specs.declared.Kind.{Kind}
use Rattle.std.specs.Prelude.{Ok, Err}
use Rattle.index.specs.declared.refusals.Refusal.{Refusal}
use Rattle.index.specs.declared.refusals.Refusal.TheVariants.{ShortBuffer, NoRoom}
use Rattle.index.specs.declared.refusals.ReadError.TheVariants.{NotASet, Refused}
use Rattle.index.specs.Numbers.{Answers, number}
use Rattle.index.specs.Block.{IsName, Sized, Good, records, room}
use Rattle.index.specs.Message.{kind_of}
use Rattle.index.specs.Text.{Entry, text_of, set_of, Writes, Replaced}
use Rattle.index.specs.Calls.{block_needs, set_needs, write_needs, Written, WritesSet, WriteAnswers, ReadsText, ReadsSet, ReadAnswers}
use Rattle.index.specs.work.Pieces.{Scanned}
use Rattle.index.proofs.laws.Firsts.{All, passed, first_all, refuses, refused_first, passed_first}
use Rattle.index.proofs.laws.Refusing.{above, some}

-- ---- the shared tests

pub set_held : (b : List ℕ) (kind x : ℕ) → Answers (set_needs b kind x) 0 → All (set_needs b kind x)
unfolding set_needs block_needs
set_held b kind x a = passed (set_needs b kind x) (omega arith) refl a

-- What they ask for.
pub record Held (b : List ℕ) (kind x : ℕ) : Type 0 where
  pub sized : Sized b
  pub good : Good b
  pub named : IsName x

pub held : (b : List ℕ) (kind x : ℕ) → All (set_needs b kind x) → Held b kind x
unfolding set_needs block_needs
held b kind x h = record { sized = h.0; good = h.1.0; named = h.1.1.1.0 }

-- ---- write

module _ (b : List ℕ) (kind x : ℕ) (out : List ℕ) where
  pub wrote_refused : (e : Refusal) → Answers (set_needs b kind x) (number e) → WriteAnswers b kind x out (Err e) out
  unfolding WriteAnswers WritesSet write_needs
  wrote_refused e a = refused_first (λ n. (n, 0, out)) (set_needs b kind x) _ (Written b kind x out) (number e) (above e) a

  module _ (h : All (set_needs b kind x)) (t : List ℕ) (e : text_of (set_of b (kind_of kind) x) ≡ t) where
    pub wrote_long : length out < length t → WriteAnswers b kind x out (Err ShortBuffer) out
    unfolding WriteAnswers WritesSet write_needs
    wrote_long l =
        passed_first (λ n. (n, 0, out)) (set_needs b kind x) _ (Written b kind x out) (10, 0, out) h
        (inl ((λ k. omega (arith, ap length e)), refl))

    pub wrote_text : {n : ℕ} {out' : List ℕ} → n ≡ length t → n ≤ length out → out' ≡ sets out 0 t → WriteAnswers b kind x out (Ok n) out'
    unfolding WriteAnswers WritesSet write_needs
    wrote_text {n} {out'} p l q =
        let z : 0 + length t ≡ length t = omega arith in
        let u : out' ≡ t ++ drop (length t) out = q ∙ sets-eq t out 0 (omega arith) ∙ ap (λ (m : ℕ). t ++ drop m out) z in
        let w : n ≡ length (text_of (set_of b (kind_of kind) x)) = p ∙ sym (ap length e) in
        let v : out' ≡ text_of (set_of b (kind_of kind) x) ++ drop (length (text_of (set_of b (kind_of kind) x))) out =
        u ∙ ap (λ (s : List ℕ). s ++ drop (length s) out) (sym e) in
        passed_first (λ n. (n, 0, out)) (set_needs b kind x) _ (Written b kind x out) (0, n, out') h
        (inr (omega (arith, ap length e), λ j. (0, w j, v j)))

-- ---- read

module _ (b : List ℕ) (kind x : ℕ) (text : List ℕ) where
  pub took_refused : (e : Refusal) → Answers (set_needs b kind x) (number e) → ReadAnswers b kind x text (Err (Refused e)) b
  unfolding ReadAnswers ReadsSet
  took_refused e a = refuses (λ n. (n, 0, b)) (ReadsText b (kind_of kind) x text) (set_needs b kind x) (some e) a

  module _ (h : All (set_needs b kind x)) (K : Kind) (q : K ≡ kind_of kind) where
    there : (o : ℕ × ℕ × List ℕ) → ReadsText b K x text o → ReadsSet b kind x text o
    unfolding ReadsSet
    there o w =
        first_all (λ n. (n, 0, b)) (ReadsText b (kind_of kind) x text) o (set_needs b kind x) h
        (subst (λ (L : Kind). ReadsText b L x text o) q w)

    -- The text is of no set, and wrong at its place.
    pub took_wrong : (n : ℕ) → Scanned K text (Err n) → ReadAnswers b kind x text (Err (NotASet n)) b
    unfolding ReadAnswers
    took_wrong n s = there (9, n, b) (inl (s.0, refl, s.1, refl))

    module _ {n old : ℕ} (s : Scanned K text (Ok n)) (e : length (set_of b K x) ≡ old) where
      pub took_full : room b + old < records b + n → ReadAnswers b kind x text (Err (Refused NoRoom)) b
      unfolding ReadAnswers
      took_full l = there (8, 0, b) (inr (s.0, s.1, inl ((λ k. omega (arith, k, s.2, e)), refl)))

      pub took_set : {b' : List ℕ} → records b + n ≤ room b + old
          → ((es : List Entry) → Writes K es text → length es ≡ n → Replaced K x es b b') → ReadAnswers b kind x text (Ok n) b'
      unfolding ReadAnswers
      took_set {b'} l r =
          there (0, n, b') (inr (s.0, s.1, inr (omega (arith, s.2, e), (refl, sym s.2, r s.0 s.1 s.2))))
