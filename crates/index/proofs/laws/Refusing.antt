-- The refusals of the code, and their numbers.
use Prim.Native.Nat.{ℕ, ◌<◌}
use mathlib.Core.Path.{◌≡◌, refl, sym, ap, ◌∙◌}
use mathlib.Core.Bool.{true, false}
use mathlib.Core.List.{[], ◌∷◌}
use native.Mathlib.Omega.{arith}
use lib.ListN.{get_or}
use Rattle.std.specs.Prelude.{Result, Ok, Err, IsErrAnd, IsOk, is_err}
use Rattle.std.proofs.lemmas.Result.{err_from_is_err_and}
use Rattle.index.specs.declared.refusals.Refusal.{Refusal}
use Rattle.index.specs.declared.refusals.Refusal.TheVariants as refusal
use Rattle.index.specs.Numbers.{number, number_of, Means}

pub above : (e : Refusal) → 0 < number e
above refusal.Length = omega arith
above refusal.NotGood = omega arith
above refusal.Form = omega arith
above refusal.Name = omega arith
above refusal.Mask = omega arith
above refusal.Missing = omega arith
above refusal.Full = omega arith
above refusal.NoRoom = omega arith
above refusal.ShortBuffer = omega arith
above refusal.Chain = omega arith
above refusal.Date = omega arith
above refusal.Directory = omega arith
above refusal.TooLarge = omega arith
above refusal.Profile = omega arith

pub some : (e : Refusal) → number e ≡ 0 → ⊥
some e q = omega (arith, above e)

-- 9 is no refusal's: it comes with a place.
pub not_9 : (e : Refusal) → number e ≡ 9 → ⊥
not_9 refusal.Length q = omega arith
not_9 refusal.NotGood q = omega arith
not_9 refusal.Form q = omega arith
not_9 refusal.Name q = omega arith
not_9 refusal.Mask q = omega arith
not_9 refusal.Missing q = omega arith
not_9 refusal.Full q = omega arith
not_9 refusal.NoRoom q = omega arith
not_9 refusal.ShortBuffer q = omega arith
not_9 refusal.Chain q = omega arith
not_9 refusal.Date q = omega arith
not_9 refusal.Directory q = omega arith
not_9 refusal.TooLarge q = omega arith
not_9 refusal.Profile q = omega arith

-- The refusal of a number.
abbrev refusal_of : ℕ → Refusal
refusal_of n =
    get_or (refusal.Length ∷ refusal.Length ∷ refusal.NotGood ∷ refusal.Form ∷ refusal.Name ∷ refusal.Mask ∷ refusal.Missing ∷ refusal.Full
    ∷ refusal.NoRoom ∷ refusal.NoRoom ∷ refusal.ShortBuffer ∷ refusal.Chain ∷ refusal.Date ∷ refusal.Directory ∷ refusal.TooLarge
    ∷ refusal.Profile ∷ []) n refusal.Length

back : (e : Refusal) → refusal_of (number e) ≡ e
back refusal.Length = refl
back refusal.NotGood = refl
back refusal.Form = refl
back refusal.Name = refl
back refusal.Mask = refl
back refusal.Missing = refl
back refusal.Full = refl
back refusal.NoRoom = refl
back refusal.ShortBuffer = refl
back refusal.Chain = refl
back refusal.Date = refl
back refusal.Directory = refl
back refusal.TooLarge = refl
back refusal.Profile = refl

-- Two refusals with one number are one.
pub once : (e e' : Refusal) → number e ≡ number e' → e ≡ e'
once e e' q = sym (back e) ∙ ap refusal_of q ∙ back e'

-- So are two answers without a value.
pub one_answer : (r r' : Result (Unit {0}) Refusal) → number_of r ≡ number_of r' → r ≡ r'
one_answer (Ok a) (Ok a') q = refl
one_answer (Ok a) (Err e) q = absurd (some e (sym q))
one_answer (Err e) (Ok a) q = absurd (some e q)
one_answer (Err e) (Err e') q = ap Err (once e e' q)

-- A refused answer has a number, and an accepted one has 0.
pub refused_some : {A : Type 0} (r : Result A Refusal) → is_err r ≡ true → number_of r ≡ 0 → ⊥
refused_some (Ok a) q z = let f : ◌≡◌ {A = ℕ} 0 1 = cc in omega arith
refused_some (Err e) q z = some e z

pub accepted_none : {A : Type 0} (r : Result A Refusal) → is_err r ≡ false → number_of r ≡ 0
accepted_none (Ok a) q = refl
accepted_none (Err e) q = let f : ◌≡◌ {A = ℕ} 0 1 = cc in absurd (omega arith)

-- What holds of a refusal's number holds of the answer that it goes out with.
pub passed_on : {A : Type 0} (P : ℕ → Type 0) (r : Result A Refusal) (e : Refusal) → IsErrAnd r (λ x. x ≡ e) → P (number e) → P (number_of r)
passed_on P r e h p = let q = err_from_is_err_and r h in rw (q.1, q.2) p

module _ {A V : Type 0} (value : A → V) (none : V) where
  pub means_refused : (Outcome : ℕ × V → Type 0) (r : Result A Refusal) (e : Refusal) → IsErrAnd r (λ x. x ≡ e) → Outcome (number e, none)
      → Means value none Outcome r
  means_refused Outcome r e h p = let q = err_from_is_err_and r h in rw (q.1, q.2) p

  -- What holds of the outcome of one call, if it holds of that of another, holds of the answer.
  pub means_map : (P Q : ℕ × V → Type 0) → ((o : ℕ × V) → P o → Q o) → (r : Result A Refusal) → Means value none P r → Means value none Q r
  means_map P Q f (Ok a) p = f (0, value a) p
  means_map P Q f (Err e) p = f (number e, none) p

-- An answer with the number 0 is accepted.
pub is_accepted : {A : Type 0} (r : Result A Refusal) → number_of r ≡ 0 → IsOk r
is_accepted (Ok a) q = refl
is_accepted (Err e) q = absurd (some e q)
