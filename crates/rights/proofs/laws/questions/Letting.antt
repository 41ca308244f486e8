-- What the filters and exclusive groups let through: one answer, and what it says to the calls that ask it first.
use Prim.Native.Nat.{ℕ}
use mathlib.Core.Path.{◌≡◌, refl, sym, ◌∙◌}
use mathlib.Core.List.{List, ◌++◌}
use native.Mathlib.Omega.{arith}
use Rattle.std.specs.Prelude.{Ok, Err}
use Rattle.index.specs.declared.refusals.Refusal.{Refusal}
use Rattle.index.specs.Letters.{In, Mask}
use Rattle.index.specs.Numbers.{First, Answers, number}
use Rattle.index.specs.Block.{Sized, Good, IsName}
use Rattle.index.specs.Calls.{block_needs}
use Rattle.index.proofs.laws.Firsts.{All, passed, refuses, first_passed, first_refused, first_all, refused_first}
use Rattle.index.proofs.laws.Refusing.{above, some}
use Rattle.index.proofs.laws.OneFirst.{one_first}
use Rattle.index.proofs.laws.block.Masks.{mask_map, mask_one}
use Rattle.rights.specs.Groups.{Open}
use Rattle.rights.specs.Held.{Passes, chain_limit}
use Rattle.rights.specs.Through.{through_needs, Lets, LetsThrough, ThroughAnswers}

-- All that such a call needs.
pub record Named (b : List ℕ) (u o : ℕ) : Type 0 where
  pub sized : Sized b
  pub good : Good b
  pub user : IsName u
  pub object : IsName o

module _ (b : List ℕ) (u o : ℕ) where
  abbrev refusal : ℕ → ℕ × ℕ
  refusal n = (n, 0)

  pub all_named : Named b u o → All (through_needs b u o)
  unfolding through_needs block_needs
  all_named h = (h.sized, (h.good, ((h.user, h.object), tt)))

  named_all : All (through_needs b u o) → Named b u o
  unfolding through_needs block_needs
  named_all h = record { sized = h.0; good = h.1.0; user = h.1.1.0.0; object = h.1.1.0.1 }

  -- ---- for the code

  pub names_passed : Answers (through_needs b u o) 0 → Named b u o
  unfolding through_needs block_needs
  names_passed a = named_all (passed (through_needs b u o) (omega arith) refl a)

  pub refused : (e : Refusal) → Answers (through_needs b u o) (number e) → LetsThrough b u o (number e, 0)
  unfolding LetsThrough
  refused e a = refuses refusal (Lets b u o) (through_needs b u o) (some e) a

  pub lets : Named b u o → {p r : ℕ} → Mask p (Passes b o) → Mask r (λ k. Open chain_limit b u o × In k p) → LetsThrough b u o (0, r)
  unfolding LetsThrough
  lets h {p} {r} passed opened =
      first_all refusal (Lets b u o) (0, r) (through_needs b u o) (all_named h)
      (refl, mask_map opened _ (λ k l. ((λ q. ((passed.1 k l).0 q.1, q.0)), (λ q. (q.1, (passed.1 k l).1 q.0)))))

  -- ---- no second answer

  pub one_through : (a c : ℕ × ℕ) → LetsThrough b u o a → LetsThrough b u o c → a ≡ c
  unfolding LetsThrough
  one_through =
      one_first refusal (through_needs b u o) (Lets b u o)
      (λ a c p q.
      let n : a.0 ≡ c.0 = p.0 ∙ sym q.0 in
      let m : a.1 ≡ c.1 = mask_one p.1 q.1 in
      λ i. (n i, m i))

  -- ---- for the calls that ask it first

  pub through_named : {m : ℕ} → ThroughAnswers b u o (Ok m)
      → Named b u o × Mask m (λ k. Passes b o k × Open chain_limit b u o)
  unfolding ThroughAnswers LetsThrough through_needs block_needs
  through_named {m} t =
      let r = first_passed refusal (Lets b u o) (0, m) (λ a. a.0) (λ n. refl) (through_needs b u o) (omega arith) refl t in
      (named_all r.0, r.1.1)

  -- A refusal refuses every call that has more requirements behind these.
  pub through_refused : {O : Type 0} (refused : ℕ → O) (more : List (ℕ × Type 0)) (accepted : O → Type 0) (e : Refusal)
      → ThroughAnswers b u o (Err e) → First refused (through_needs b u o ++ more) accepted (refused (number e))
  unfolding ThroughAnswers LetsThrough
  through_refused refused more accepted e t =
      refused_first refused (through_needs b u o) more accepted (number e) (above e)
      (first_refused refusal (Lets b u o) (number e, 0) (λ a. a.0) (λ n. refl) (through_needs b u o) (λ l. l.0) (some e) t).0
