-- What a value of the code says of its wide message holds of it: its header, its length and its lists are right.
use Prim.Native.Nat.{ℕ, ◌+◌, ◌*◌, ◌<◌}
use mathlib.Core.List.{List}
use mathlib.Core.Logic.{inl, inr, ⊎_elim}
use native.Mathlib.Omega.{arith}
use Rattle.std.proofs.Math.Nat.{ℕ_set}
use Rattle.std.proofs.Math.Bool.{Bool-set}
use Rattle.std.proofs.Math.Bridge.{le_prop}
use Rattle.std.proofs.Math.Logic.{∥∥₁_elim, ∥∥₁_prop}
use Rattle.index.specs.declared.messages.pairs.FormedWide.{FormedWide}
use Rattle.index.specs.Message.{IsKind, half_count, kind_of, kind_in, markers, present, Marked}
use Rattle.index.specs.Wide.{list_offset, list_length, names, ListGood, WideFormed}
use Rattle.index.proofs.laws.Range.{lt_or_le}
use Rattle.index.proofs.laws.message.Halves.{kind_one}
use Rattle.index.proofs.laws.message.NameLists.{steps_rising, rising_steps}

list_known : (m : List ℕ) (q : ℕ) → ∥ ListGood m q ∥₁ → ListGood m q
unfolding names
list_known m q s = (
  ∥∥₁_elim s le_prop (λ g. g.0),
  ∥∥₁_elim s le_prop (λ g. g.1),
  rising_steps m (list_offset m q) (list_length m q) (λ j l. ∥∥₁_elim s le_prop (λ g. steps_rising m (list_offset m q) (list_length m q) g.2 j l)),
)

module _ (m : List ℕ) (t : ∥ WideFormed m ∥₁) where
  marked_known : (h : ℕ) → h < half_count → Marked (markers m h) (kind_of (kind_in m)) (present m h)
  unfolding Marked
  marked_known h l =
      ⊎_elim
      (λ some. inr (
        ∥∥₁_elim t le_prop (λ w. ⊎_elim (λ z. omega (arith, some, z)) (λ p. p.0) (w.begun.marked h l)),
        (kind_one (kind_in m)).1 (∥∥₁_elim t (hlevel ℕ_set) (λ w. ⊎_elim (λ z. absurd (omega (arith, some, z))) (λ p. (kind_one (kind_in m)).0 p.1) (w.begun.marked h l))),
        ∥∥₁_elim t (hlevel Bool-set) (λ w. ⊎_elim (λ z. absurd (omega (arith, some, z))) (λ p. p.2) (w.begun.marked h l)),
      ))
      (λ none. inl (omega (arith, none))) (lt_or_le 0 (markers m h))

  pub wide_known : WideFormed m
  unfolding IsKind
  wide_known =
      record {
        header = ∥∥₁_elim t le_prop (λ w. w.header);
        begun = record {
          kind = (∥∥₁_elim t le_prop (λ w. w.begun.kind.0), ∥∥₁_elim t le_prop (λ w. w.begun.kind.1));
          some_half = (∥∥₁_elim t le_prop (λ w. w.begun.some_half.0), ∥∥₁_elim t le_prop (λ w. w.begun.some_half.1));
          marked = marked_known;
        };
        offsets = λ q l. ∥∥₁_elim t (hlevel ℕ_set) (λ w. w.offsets q l);
        ends = ∥∥₁_elim t (hlevel ℕ_set) (λ w. w.ends);
        absent = λ h l e. ∥∥₁_elim t (hlevel ℕ_set) (λ w. w.absent h l e);
        lists = λ h l e. (
          list_known m (2 * h) (∥∥₁_elim t ∥∥₁_prop (λ w. ∣ (w.lists h l e).0 ∣₁)),
          list_known m (2 * h + 1) (∥∥₁_elim t ∥∥₁_prop (λ w. ∣ (w.lists h l e).1 ∣₁)),
        );
      }

pub is_formed : (message : FormedWide) → WideFormed message.bytes.now
is_formed message = wide_known message.bytes.now message.formed
