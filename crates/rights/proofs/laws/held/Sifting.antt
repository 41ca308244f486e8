-- A mask that is narrowed by one record of a name after the other.
use Prim.Native.Nat.{ℕ, ◌+◌, ◌<◌, ◌≤◌}
use mathlib.Core.Path.{◌≡◌, subst, sym}
use mathlib.Core.List.{List}
use mathlib.Core.Logic.{◌⊎◌, ⊎_elim}
use native.Mathlib.Omega.{arith}
use native.Mathlib.Nat.{eq-or-lt_of_le}
use Rattle.index.specs.declared.Kind.{Kind}
use Rattle.index.specs.Letters.{In, Mask}
use Rattle.index.proofs.laws.block.Masks.{in_zero, mask_map}
use Rattle.directory.specs.declared.Span.{Span}
use Rattle.rights.specs.work.Lookup.{Keyed, EachOf}

-- At record i, of those from lo on: r has the rights of which Q holds, and P of each record of x that stands before i.
pub record Sifted (b : List ℕ) (kind : Kind) (x : ℕ) (P : ℕ → ℕ → Type 0) (Q : ℕ → Type 0) (lo i r : ℕ) : Type 0 where
  pub low : lo ≤ i
  pub rights : Mask r (λ k. EachOf b kind x (λ j. j < i → P j k) × Q k)

module _ {b : List ℕ} {kind : Kind} {x : ℕ} {P : ℕ → ℕ → Type 0} {Q : ℕ → Type 0} (span : Span) where
  pub sifted_none : {r : ℕ} → Mask r Q → Keyed b kind x span → Sifted b kind x P Q span.from span.from r
  sifted_none told keyed = record {
    low = omega arith;
    rights = mask_map told _ (λ k h. ((λ q. ((λ j of e l. absurd (omega (arith, ((keyed j).1 (of, e)).0))), q)), (λ p. p.1)));
  }

  module _ {i r : ℕ} (n : Sifted b kind x P Q span.from i r) (keyed : Keyed b kind x span) where
    -- Record i narrows it to s.
    pub sifted_more : {s : ℕ} → i < span.end → Mask s (λ k. P i k × In k r) → Sifted b kind x P Q span.from (i + 1) s
    sifted_more l told = record {
      low = omega (arith, n.low);
      rights = mask_map told _
          (λ k h. (
            (λ p.
                let q = (n.rights.1 k h).0 p.1 in (
                  (λ j of e m.
                      ⊎_elim (λ s. subst (λ (t : ℕ). P t k) (sym s) p.0) (q.0 j of e)
                      (eq-or-lt_of_le {n = j} {m = i} (omega arith))),
                  q.1,
                )),
            (λ p.
                let here = (keyed i).0 (n.low, l) in
                (p.0 i here.0 here.1 (omega arith), (n.rights.1 k h).1 ((λ j of e m. p.0 j of e (omega arith)), p.1))),
          ));
    }

    -- All records of x were seen, or nothing is left.
    pub sifted_all : (span.end ≤ i) ⊎ (r ≡ 0) → Mask r (λ k. EachOf b kind x (λ j. P j k) × Q k)
    sifted_all seen =
        mask_map n.rights _
        (λ k h. (
          (λ p. (
            (λ j of e.
                ⊎_elim (λ l. p.0 j of e (omega (arith, ((keyed j).1 (of, e)).1)))
                (λ z. absurd (in_zero k (rw z at ((n.rights.1 k h).1 p)))) seen),
            p.1,
          )),
          (λ p. ((λ j of e l. p.0 j of e), p.1)),
        ))
