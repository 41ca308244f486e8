-- A splice, and then other bytes of the records that came.
use Prim.Native.Nat.{ℕ, ◌+◌, ◌<◌, ◌≤◌}
use mathlib.Core.Path.{◌≡◌, ◌∙◌}
use mathlib.Core.List.{List}
use native.Mathlib.Omega.{arith}
use Rattle.index.specs.declared.Kind.{Kind}
use Rattle.index.specs.Block.{header_length, number, size, place}
use Rattle.index.specs.work.Bytes.{Inside, Spliced}
use Rattle.index.specs.work.Checks.{Header}
use Rattle.index.proofs.laws.block.Bytes.{number_below}
use Rattle.index.proofs.laws.block.Checked.{each_kind}

module _ {lo hi : ℕ} {b b' : List ℕ} (w : Inside lo hi b b') (l : header_length ≤ lo) where
  same : (t : ℕ) → t + 1 < header_length → number b' t ≡ number b t
  same t h = number_below w t (omega arith)

  same_size : (K : Kind) → size b' K ≡ size b K
  same_size = each_kind (λ K. size b' K ≡ size b K) (same 0 (omega arith)) (same 2 (omega arith)) (same 4 (omega arith))

  same_header : Header b → Header b'
  same_header h =
      let m = same 0 (omega arith) in
      let p = same 2 (omega arith) in
      let f = same 4 (omega arith) in
      record {
        zero_at_6 = same 6 (omega arith) ∙ h.zero_at_6;
        m_offset = same 8 (omega arith) ∙ h.m_offset;
        p_offset = omega (arith, same 10 (omega arith), h.p_offset);
        f_offset = omega (arith, same 12 (omega arith), h.f_offset);
        end_offset = omega (arith, same 14 (omega arith), h.end_offset);
        fits = omega (arith, w.same_length, h.fits);
      }

pub spliced_then : {K : Kind} {j n m : ℕ} {b b₁ b₂ : List ℕ} → Spliced K j n m b b₁ → Inside (place j) (place (j + m)) b₁ b₂
    → Spliced K j n m b b₂
spliced_then {K} s w =
    record {
      same_length = w.same_length ∙ s.same_length;
      below = λ t l h. w.below t h ∙ s.below t l h;
      moved = λ t. w.above _ (omega arith) ∙ s.moved t;
      own = omega (arith, same_size w (omega arith) K, s.own);
      other = λ L ne. same_size w (omega arith) L ∙ s.other L ne;
      header = same_header w (omega arith) s.header;
    }
