-- Two sets of a kind with the same counts are equal.
use Prim.Native.Nat.{ℕ, ◌+◌, ◌<◌}
use mathlib.Core.Path.{◌≡◌, refl, sym, ◌∙◌}
use mathlib.Core.List.{List, [], ◌∷◌}
use mathlib.Core.Logic.{⊎_elim}
use native.Mathlib.Omega.{arith}
use native.Mathlib.Nat.{eq-or-lt_of_le}
use borrow.Author.Tests.{eq-eqb, ne_eqb}
use lib.ListN.{get_or, get_or-eq_default}
use lib.Seq.{ext_get_or}
use Rattle.index.specs.declared.Kind.{Kind}
use Rattle.index.specs.Letters.{letter_count}
use Rattle.index.specs.Text.{Entry, IsEntry, IsSet, count_in}
use Rattle.index.proofs.laws.Range.{lt_or_le}
use Rattle.index.proofs.laws.text.IsSet.{Rises}
use Rattle.index.proofs.laws.text.IsSet.Rises.{none, next}

from_on : {kind : Kind} {lo : ℕ} {f : Entry} {es : List Entry} → lo < f.id → Rises kind 0 (f ∷ es) → Rises kind (lo + 1) (f ∷ es)
from_on {lo = lo} l (next h m r) = next {lo = lo + 1} h (omega arith) r

set_rises : {kind : Kind} {es : List Entry} → IsSet kind es → Rises kind 0 es
set_rises IsSet.empty = none
set_rises (IsSet.one h) = next {lo = 0} h (omega arith) none
set_rises (IsSet.more h l s) = next {lo = 0} h (omega arith) (from_on l (set_rises s))

-- ---- the count of an id

module _ (e : Entry) (es : List Entry) (y k : ℕ) where
  count_here : e.id ≡ y → count_in (e ∷ es) y k ≡ get_or e.counts k 0
  unfolding count_in
  count_here h = simp (eq-eqb e.id y h)

  count_later : (e.id ≡ y → ⊥) → count_in (e ∷ es) y k ≡ count_in es y k
  unfolding count_in
  count_later h = simp (ne_eqb e.id y h)

no_count : {kind : Kind} {lo : ℕ} {es : List Entry} → Rises kind lo es → (y k : ℕ) → y < lo → count_in es y k ≡ 0
no_count none y k h = unfold count_in in refl
no_count (next {e = e} {es = es} i l r) y k h = count_later e es y k (λ q. omega arith) ∙ no_count r y k (omega arith)

-- A record of a set has a letter that is counted.
pub some_letter : {kind : Kind} {e : Entry} → IsEntry kind e → (k : ℕ) × (k < letter_count) × (0 < get_or e.counts k 0)
some_letter {e = e} i =
    let (k, c) = i.counted in (
      k,
      ⊎_elim (λ h. h) (λ h. absurd (omega (arith, get_or-eq_default e.counts 0 {n = k} (omega (arith, i.long)))))
          (lt_or_le k letter_count),
      c,
    )

abbrev Same : List Entry → List Entry → Type 0
Same es fs = (y k : ℕ) → k < letter_count → count_in es y k ≡ count_in fs y k

-- A set with a record has a count that one without it has not.
differ : {kind : Kind} {lo : ℕ} (e : Entry) (es fs : List Entry) → IsEntry kind e → e.id < lo → Rises kind lo fs → Same (e ∷ es) fs → ⊥
differ e es fs i l r s =
    let (k, h, c) = some_letter i in
    omega (arith, s e.id k h, count_here e es e.id k refl, no_count r e.id k l)

rises_one : {kind : Kind} {lo lo' : ℕ} {es fs : List Entry} → Rises kind lo es → Rises kind lo' fs → Same es fs → es ≡ fs
rises_one none none s = refl
rises_one none (next {e = f} {es = fs} i l r) s = absurd (differ {lo = f.id + 1} f fs [] i (omega arith) none (λ y k h. sym (s y k h)))
rises_one (next {e = e} {es = es} i l r) none s = absurd (differ {lo = e.id + 1} e es [] i (omega arith) none s)
rises_one {kind} (next {e = e} {es = es} i l r) (next {e = f} {es = fs} j m t) s =
    ⊎_elim (λ h. absurd (differ {lo = f.id} e es (f ∷ fs) i h (next j (omega arith) t) s))
    (λ h.
    ⊎_elim (λ q. both q (rises_one r t (tails q)))
    (λ u. absurd (differ {lo = e.id} f fs (e ∷ es) j u (next i (omega arith) r) (λ y k v. sym (s y k v))))
    (eq-or-lt_of_le h))
    (lt_or_le e.id f.id)
  where
    tails : f.id ≡ e.id → Same es fs
    tails q y k h =
        ⊎_elim (λ u. no_count r y k u ∙ sym (no_count t y k (omega arith)))
        (λ u. sym (count_later e es y k (λ v. omega arith)) ∙ s y k h ∙ count_later f fs y k (λ v. omega arith))
        (lt_or_le y (e.id + 1))

    both : f.id ≡ e.id → es ≡ fs → e ∷ es ≡ f ∷ fs
    both q v =
        let c : e.counts ≡ f.counts =
        ext_get_or 0 e.counts f.counts (i.long ∙ sym j.long)
        (λ k h. sym (count_here e es e.id k refl) ∙ s e.id k (omega (arith, i.long)) ∙ count_here f fs e.id k q) in
        let d : e.id ≡ f.id = sym q in
        λ z. record { id = d z; counts = c z } ∷ v z

pub one_set : {kind : Kind} {es fs : List Entry} → IsSet kind es → IsSet kind fs → Same es fs → es ≡ fs
one_set a b s = rises_one (set_rises a) (set_rises b) s
