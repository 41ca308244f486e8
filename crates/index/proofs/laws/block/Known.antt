-- What a value of the code says of its block holds of it: a good block, and one of a right length.
use Prim.Native.Nat.{ℕ, zero, suc, ◌+◌, ◌<◌}
use mathlib.Core.Path.{◌≡◌}
use mathlib.Core.List.{List}
use mathlib.Core.Logic.{◌⊎◌, inl, inr, ⊎_elim}
use native.Mathlib.Omega.{arith}
use Rattle.std.proofs.Math.Nat.{ℕ_set}
use Rattle.std.proofs.Math.Bridge.{le_prop}
use Rattle.std.proofs.Math.Logic.{∥∥₁_elim, ∥∥₁_prop}
use Rattle.index.specs.declared.block.good.GoodBlock.{GoodBlock}
use Rattle.index.specs.Letters.{letter_count}
use Rattle.index.specs.Block.{Sized, Good, Before, key, count_at}
use Rattle.index.proofs.laws.Range.{lt_or_le}

pub sized_known : (b : List ℕ) → ∥ Sized b ∥₁ → Sized b
unfolding Sized
sized_known b t = ∥∥₁_elim t (hlevel (le_prop)) (λ s. s)

-- One of the first n numbers is above zero, or none is.
one_above : (f : ℕ → ℕ) (n : ℕ) → ((k : ℕ) × (k < n) × (0 < f k)) ⊎ ((k : ℕ) → k < n → f k ≡ 0)
one_above f zero = inr (λ k l. absurd (omega arith))
one_above f (suc n) =
    ⊎_elim (λ w. inl (w.0, omega (arith, w.1), w.2))
    (λ none. ⊎_elim (λ p. inl (n, omega arith, p)) (λ z. inr (λ k l. ⊎_elim (none k) (λ h. let e : k ≡ n = omega arith in rw e (omega (arith, z))) (lt_or_le k n))) (lt_or_le 0 (f n)))
    (one_above f n)

module _ (b : List ℕ) (t : ∥ Good b ∥₁) where
  before_known : (i j : ℕ) → ∥ Before b i j ∥₁ → Before b i j
  unfolding Before
  before_known i j s =
      ⊎_elim inl (λ l. inr (∥∥₁_elim s (hlevel (le_prop, ℕ_set)) (⊎_elim (λ p. absurd (omega arith)) (λ q. q)))) (lt_or_le (key b i) (key b j))

  pub good_known : Good b
  good_known =
      record {
        bytes = λ j. ∥∥₁_elim t le_prop (λ g. g.bytes j);
        zero_at_6 = ∥∥₁_elim t (hlevel ℕ_set) (λ g. g.zero_at_6);
        m_offset = ∥∥₁_elim t (hlevel ℕ_set) (λ g. g.m_offset);
        p_offset = ∥∥₁_elim t (hlevel ℕ_set) (λ g. g.p_offset);
        f_offset = ∥∥₁_elim t (hlevel ℕ_set) (λ g. g.f_offset);
        end_offset = ∥∥₁_elim t (hlevel ℕ_set) (λ g. g.end_offset);
        fits = ∥∥₁_elim t le_prop (λ g. g.fits);
        keys = λ i l. ∥∥₁_elim t le_prop (λ g. g.keys i l);
        ids = λ i l. ∥∥₁_elim t le_prop (λ g. g.ids i l);
        rising = λ kind i p q. before_known i (i + 1) (∥∥₁_elim t ∥∥₁_prop (λ g. ∣ g.rising kind i p q ∣₁));
        counted = λ i l.
            ⊎_elim (λ w. w) (λ none. absurd (∥∥₁_elim t (hlevel) (λ g. let w = g.counted i l in omega (arith, none w.0 w.1, w.2)))) (one_above (count_at b i) letter_count);
        allowed = λ kind i p k e. ∥∥₁_elim t (hlevel ℕ_set) (λ g. g.allowed kind i p k e);
        tail = λ j l. ∥∥₁_elim t (hlevel ℕ_set) (λ g. g.tail j l);
      }

pub is_good : (block : GoodBlock) → Good block.bytes.now
is_good block = good_known block.bytes.now block.good

pub is_sized : (block : GoodBlock) → Sized block.bytes.now
is_sized block = sized_known block.bytes.now block.sized
