-- The search for a record, by halves or from a record on.
use Prim.Native.Nat.{ℕ, ◌+◌, ◌*◌, ◌<◌, ◌≤◌}
use mathlib.Core.Path.{◌≡◌}
use mathlib.Core.List.{List}
use mathlib.Core.Logic.{⊎_elim}
use native.Mathlib.Nat.{eq-or-lt_of_le}
use native.Mathlib.Omega.{arith}
use Rattle.index.specs.declared.Kind.{Kind}
use Rattle.index.specs.Block.{name_count, IsName, from, size, Of, Good}
use Rattle.index.specs.work.Edits.{Lowest}
use Rattle.index.specs.work.Places.{spot, At, Gap}
use Rattle.index.proofs.laws.block.Records.{of_records, no_lower}

-- Of the records first to end - 1, those before number lo stand below `want`, and those from number hi on do not.
pub record Between (b : List ℕ) (want first end lo hi : ℕ) : Type 0 where
  pub low : first ≤ lo
  pub middle : lo ≤ hi
  pub high : hi ≤ end
  pub below : (i : ℕ) → first ≤ i → i < lo → spot b i < want
  pub above : (i : ℕ) → hi ≤ i → i < end → want ≤ spot b i

pub at_first : (b : List ℕ) (want first end : ℕ) → first ≤ end → Between b want first end first end
at_first b want first end l =
    record {
      low = omega arith;
      middle = l;
      high = omega arith;
      below = λ i o h. absurd (omega arith);
      above = λ i o h. absurd (omega arith);
    }

module _ {b : List ℕ} (kind : Kind) {want first end : ℕ} (s : first ≡ from b kind) (e : end ≡ from b kind + size b kind) where
  pub at_last : {lo hi : ℕ} → Between b want first end lo hi → hi ≤ lo → Lowest b kind want lo
  at_last w l =
      record {
        low = omega (arith, w.low);
        high = omega (arith, w.middle, w.high);
        below = λ i o h. w.below i (omega arith) h;
        above = λ i o h. w.above i (omega arith) (omega arith);
      }

  module _ (g : Good b) {lo hi : ℕ} (mid : ℕ) (l : lo ≤ mid) (h : mid < hi) (w : Between b want first end lo hi) where
    pub in_part : Of b kind mid
    in_part = omega (arith, w.low, w.high)

    pub upper_half : spot b mid < want → Between b want first end (mid + 1) hi
    upper_half t =
        record {
          low = omega (arith, w.low);
          middle = omega arith;
          high = w.high;
          below = λ i o k. omega (arith, no_lower b g kind i mid (omega arith) (omega (arith, w.high)) in_part);
          above = w.above;
        }

    pub lower_half : want ≤ spot b mid → Between b want first end lo mid
    lower_half t =
        record {
          low = w.low;
          middle = l;
          high = omega (arith, w.high);
          below = w.below;
          above = λ i k o. omega (arith, no_lower b g kind mid i k in_part (omega (arith, w.low)));
        }

-- ---- what was found

module _ {b : List ℕ} {kind : Kind} {x y i : ℕ} (g : Good b) where
  pub is_at : IsName y → Of b kind i → spot b i ≡ name_count * x + y → At b kind x y i
  is_at named o e =
      let d = g.ids i (of_records kind b i o) in
      record { of = o; has_key = omega arith; has_id = omega arith }

  pub is_gap : Lowest b kind (name_count * x + y) i → (Of b kind i → spot b i ≡ name_count * x + y → ⊥) → Gap b kind x y i
  is_gap w n =
      record {
        low = w.low;
        high = w.high;
        before = w.below;
        after =
            λ m o h.
            ⊎_elim
            (λ (e : name_count * x + y ≡ spot b m).
            let p : Of b kind i = omega (arith, w.low) in
            let q = w.above i p (omega arith) in
            let r = no_lower b g kind i m h p o in
            absurd (n p (omega arith)))
            (λ k. k)
            (eq-or-lt_of_le (w.above m o h));
      }
