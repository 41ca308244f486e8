-- The doors have one answer each. (The promises of size_of, key_of, id_of and count_of are equations.)
use Prim.Native.Nat.{ℕ, ◌+◌, ◌*◌, ◌<◌}
use mathlib.Core.Path.{◌≡◌, refl, sym, ◌∙◌}
use mathlib.Core.List.{List}
use mathlib.Core.Bool.{Bool, true, false}
use mathlib.Core.Logic.{◌⊎◌, ◌↔◌, inl, inr, ⊎_elim}
use native.Mathlib.Omega.{arith}
use lib.ListN.{length}
use Rattle.index.specs.Block.{place, key, id, count_at, Has, NetAt, DeniedAt}
use Rattle.index.specs.Letters.{marker_x, marker_n, Mask}
use Rattle.index.specs.Numbers.{Answers}
use Rattle.index.specs.Calls.{block_needs, OfRecord, PairOf, NetOf, CapitalsOf, DenialsOf, MarksOf, CountsX}
use Rattle.index.proofs.laws.block.Masks.{mask_one}
use Rattle.index.proofs.laws.Range.{lt_or_le}
use Rattle.index.proofs.laws.OneFirst.{one_first}

pub one_tested : (b : List ℕ) (r s : ℕ) → Answers (block_needs b) r → Answers (block_needs b) s → r ≡ s
one_tested b = one_first (λ n. n) (block_needs b) (λ n. n ≡ 0) (λ r s p q. p ∙ sym q)

-- The block has all of record i, or it has not.
has_or : (b : List ℕ) (i : ℕ) → Has b i ⊎ (Has b i → ⊥)
has_or b i = ⊎_elim (λ l. inr (λ h. omega arith)) (λ h. inl h) (lt_or_le (length b) (place (i + 1)))

one_of : (b : List ℕ) (i : ℕ) (P : ℕ → Type 0) → ((r s : ℕ) → P r → P s → r ≡ s) → (r s : ℕ) → OfRecord b i P r → OfRecord b i P s → r ≡ s
one_of b i P one r s p q = ⊎_elim (λ h. one r s (p.whole h) (q.whole h)) (λ n. p.past n ∙ sym (q.past n)) (has_or b i)

pub one_pair : (b : List ℕ) (i r s : ℕ) → PairOf b i r → PairOf b i s → r ≡ s
one_pair b i = one_of b i (λ n. n ≡ key b i + 65536 * id b i) (λ r s p q. p ∙ sym q)

pub one_net : (b : List ℕ) (i r s : ℕ) → NetOf b i r → NetOf b i s → r ≡ s
one_net b i = one_of b i (λ n. Mask n (NetAt b i)) (λ r s p q. mask_one p q)

pub one_capitals : (b : List ℕ) (i r s : ℕ) → CapitalsOf b i r → CapitalsOf b i s → r ≡ s
one_capitals b i = one_of b i (λ n. Mask n (λ k. 0 < count_at b i k)) (λ r s p q. mask_one p q)

pub one_denials : (b : List ℕ) (i r s : ℕ) → DenialsOf b i r → DenialsOf b i s → r ≡ s
one_denials b i = one_of b i (λ n. Mask n (DeniedAt b i)) (λ r s p q. mask_one p q)

pub one_marks : (b : List ℕ) (i r s : ℕ) → MarksOf b i r → MarksOf b i s → r ≡ s
one_marks b i = one_of b i (λ n. n ≡ count_at b i marker_x + 65536 * count_at b i marker_n) (λ r s p q. p ∙ sym q)

-- A yes or no of the same.
pub one_yes : {P : Type 0} (r s : Bool) → (r ≡ true) ↔ P → (s ≡ true) ↔ P → r ≡ s
one_yes true true p q = refl
one_yes true false p q = sym (q.1 (p.0 refl))
one_yes false true p q = p.1 (q.0 refl)
one_yes false false p q = refl

pub one_counts_x : (b : List ℕ) (r s : Bool) → (r ≡ true) ↔ CountsX b → (s ≡ true) ↔ CountsX b → r ≡ s
one_counts_x b = one_yes
