-- The records that a walk examines are those of the definition, round by round.
use Prim.Native.Nat.{ℕ, suc, ◌+◌, ◌*◌, ◌<◌, ◌≤◌}
use mathlib.Core.Path.{◌≡◌, sym, subst}
use mathlib.Core.List.{List}
use mathlib.Core.Logic.{◌⊎◌, ◌↔◌, inl, inr, ⊎_elim}
use native.Mathlib.Numerals.{unary_clauses}
use native.Mathlib.Omega.{arith}
use lib.ListN.{get_or, replicate}
use Rattle.index.specs.declared.Kind.TheVariants.{Membership}
use Rattle.index.specs.Letters.{right_count, In}
use Rattle.index.specs.Block.{name_count, IsName, key, size}
use Rattle.index.proofs.laws.block.Masks.{in_or_out, mask_map, mask_one}
use Rattle.rights.specs.declared.walk.Carry.{Carry}
use Rattle.rights.specs.declared.walk.Carry.TheVariants.{Rights}
use Rattle.rights.specs.Examined.{Mark, MarkBefore, Differs, Examined}
use Rattle.rights.specs.Examined.Examined.{before, round}
use Rattle.rights.specs.work.Marks.{Carried, Grew, Walked}
use Rattle.rights.specs.work.Marks.Walked.{done, next}
use Rattle.rights.proofs.laws.Counting.{at_most, count_map, one_or_all}
use Rattle.rights.proofs.laws.examined.ExaminedOnce.{never_less}
use Rattle.rights.proofs.laws.walk.MarksAreChains.{Fewer, first, After, after_none, after_first, after_round}

-- Whatever the marks, a round examines no more records than there are, so that their sum is a number that fits.
pub walked_rough : {b : List ℕ} {carry : Carry} {n t : ℕ} {old ms ms' : List ℕ} → size b Membership < 65536 → Walked b carry n old ms ms' t
    → t ≤ 65536 * n
walked_rough h done = omega arith
walked_rough h (next {n = n} {c = c} {t = t} read r w) = omega (arith, at_most read, walked_rough h w)

module _ (b : List ℕ) (s : ℕ) where
  -- The definition's marks before round n are the chains of fewer than n records.
  fewer : (n x k : ℕ) → Fewer (Carried b Rights k) n s x ↔ MarkBefore b s n x k
  unfolding MarkBefore Mark
  fewer ℕ.zero x k = ((λ f. f), (λ f. f))
  fewer (suc n) x k = ((λ c. c), (λ c. c))

  module _ (n : ℕ) (old ms : List ℕ) (was : After b Rights s n old) (now : After b Rights s (suc n) ms) where
    -- A mark that is not what it was has a right that it had not.
    grew : (x : ℕ) → Grew old ms x → Differs b s n x
    unfolding Differs MarkBefore
    grew x ne =
        ⊎_elim (λ w. (w.0, w.1, w.2.0, w.2.1))
        (λ all. absurd (ne (mask_one (was x) (mask_map (now x) _ (λ k h. (all k h, λ f. (fewer (suc n) x k).1 (never_less b s n x k ((fewer n x k).0 f))))))))
        (one_or_all right_count each)
      where
        each : (k : ℕ) → k < right_count
            → (MarkBefore b s (suc n) x k × (MarkBefore b s n x k → ⊥)) ⊎ (Fewer (Carried b Rights k) (suc n) s x → Fewer (Carried b Rights k) n s x)
        each k h =
            ⊎_elim
            (λ z.
            ⊎_elim (λ y. inr (λ c. absurd (omega (arith, ((now x).1 k h).1 c, y))))
            (λ i. inl ((fewer (suc n) x k).0 (((now x).1 k h).0 i), λ m. omega (arith, ((was x).1 k h).1 ((fewer n x k).1 m), z)))
            (in_or_out k (get_or ms x 0)))
            (λ i. inr (λ c. ((was x).1 k h).0 i)) (in_or_out k (get_or old x 0))

    differs : (x : ℕ) → Grew old ms x ↔ Differs b s n x
    unfolding Differs MarkBefore
    differs x = (
      grew x,
      (λ d e.
          let k = d.0 in
          d.3 ((fewer n x k).0 (((was x).1 k d.1).0 (subst (λ (m : ℕ). In k m) (sym e) (((now x).1 k d.1).1 ((fewer (suc n) x k).1 d.2)))))),
    )

  -- Rounds from round r on.
  walked_on : {n t : ℕ} {old ms ms' : List ℕ} (r e : ℕ) → After b Rights s r old → After b Rights s (suc r) ms → Walked b Rights n old ms ms' t
      → Examined b s r e → Examined b s (r + n) (e + t)
  walked_on r e was now done ex = simp unary_clauses ex
  walked_on r e was now (next {n = n} {c = c} {t = t} {old = old} {ms = ms} {ms₁ = ms₁} read rd w) ex =
      let p : suc r + n ≡ r + suc n = omega arith in
      let q : e + c + t ≡ e + (c + t) = omega arith in
      subst (λ (m : ℕ). Examined b s m (e + (c + t))) p
      (subst (λ (m : ℕ). Examined b s (suc r + n) m) q
      (walked_on (suc r) (e + c) now (after_round b Rights s r ms ms₁ now rd) w (round ex (count_map (λ i l. differs r old ms was now (key b i)) read))))

  -- All of them.
  pub walked_examined : IsName s → {n t : ℕ} {ms : List ℕ} → Walked b Rights n (replicate name_count 0) (first s) ms t → Examined b s n t
  walked_examined h {n} {t} w =
      let p : 0 + n ≡ n = omega arith in
      let q : 0 + t ≡ t = omega arith in
      subst (λ (m : ℕ). Examined b s m t) p
      (subst (λ (m : ℕ). Examined b s (0 + n) m) q (walked_on 0 0 (after_none b Rights s) (after_first b Rights s h) w before))
