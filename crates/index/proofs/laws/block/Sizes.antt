-- A header is written, number by number, and what it says of the parts.
use Prim.Native.Nat.{ℕ, ◌+◌, ◌*◌, ◌<◌, ◌≤◌}
use mathlib.Core.Path.{◌≡◌, ◌∙◌}
use mathlib.Core.List.{List}
use native.Mathlib.Omega.{arith}
use Rattle.index.specs.declared.Kind.{Kind}
use Rattle.index.specs.declared.Kind.TheVariants.{Membership, Permission, Filter}
use Rattle.index.specs.Block.{header_length, number, size, records, place, record_length}
use Rattle.index.specs.work.Bytes.{Put, Four, Inside, Shifted, Spliced}
use Rattle.index.specs.work.Edits.{three, Headed, Resized}
use Rattle.index.proofs.laws.block.Bytes.{inside_none, inside_then, inside_wide, number_below}
use Rattle.index.proofs.laws.block.Checked.{each_kind}

-- A number is written, and then what stands behind it up to hi.
put_then : {i n j : ℕ} (hi : ℕ) {a b c : List ℕ} → i + 2 ≤ j → j ≤ hi → Put i n a b → Inside j hi b c → Inside i hi a c × (number c i ≡ n)
put_then {i} hi l h w v = (
  inside_then (inside_wide i hi w.rest (omega arith) (omega arith)) v (omega arith) (omega arith),
  number_below v i (omega arith) ∙ w.here,
)

pub four : {i w x y z : ℕ} {b₀ b₁ b₂ b₃ b₄ : List ℕ} → Put i w b₀ b₁ → Put (i + 2) x b₁ b₂ → Put (i + 4) y b₂ b₃ → Put (i + 6) z b₃ b₄
    → Four i w x y z b₀ b₄
four {i} {b₄ = b₄} w₀ w₁ w₂ w₃ =
    let v₃ = put_then (i + 8) (omega arith) (omega arith) w₃ (inside_none (i + 8) (i + 8) b₄) in
    let v₂ = put_then (i + 8) (omega arith) (omega arith) w₂ v₃.0 in
    let v₁ = put_then (i + 8) (omega arith) (omega arith) w₁ v₂.0 in
    let v₀ = put_then (i + 8) (omega arith) (omega arith) w₀ v₁.0 in
    record { rest = v₀.0; first = v₀.1; second = v₁.1; third = v₂.1; fourth = v₃.1 }

pub headed : {m p f : ℕ} {b₀ b₁ b₂ : List ℕ} → Four 0 m p f 0 b₀ b₁
    → Four 8 header_length (place m) (place m + record_length * p) (place m + record_length * p + record_length * f) b₁ b₂ → Headed m p f b₀ b₂
headed {m} {p} {f} {b₂ = b₂} s o =
    let keep : (t : ℕ) → t + 1 < 8 → number b₂ t ≡ number _ t = λ t l. number_below o.rest t (omega arith) in
    let m_size = keep 0 (omega arith) ∙ s.first in
    let p_size = keep 2 (omega arith) ∙ s.second in
    let f_size = keep 4 (omega arith) ∙ s.third in
    record {
      rest = inside_then (inside_wide 0 header_length s.rest (omega arith) (omega arith)) o.rest (omega arith) (omega arith);
      sizes = each_kind (λ K. size b₂ K ≡ three m p f K) m_size p_size f_size;
      header =
          λ l.
          record {
            zero_at_6 = keep 6 (omega arith) ∙ s.fourth;
            m_offset = o.first;
            p_offset = omega (arith, m_size, o.second);
            f_offset = omega (arith, m_size, p_size, o.third);
            end_offset = omega (arith, m_size, p_size, f_size, o.fourth);
            fits = omega (arith, m_size, p_size, f_size, s.rest.same_length, o.rest.same_length);
          };
    }

-- ---- a splice, from the bytes and the header

module _ {p q : ℕ} {b b' : List ℕ} (s : Shifted p q b b') (l : header_length ≤ p) (h : header_length ≤ q) where
  same_number : (t : ℕ) → t + 1 < header_length → number b' t ≡ number b t
  unfolding number
  same_number t k = omega (arith, s.below t (omega arith) (omega arith), s.below (t + 1) (omega arith) (omega arith))

  pub shifted_size : (K : Kind) → size b' K ≡ size b K
  shifted_size =
      each_kind (λ K. size b' K ≡ size b K) (same_number 0 (omega arith)) (same_number 2 (omega arith))
      (same_number 4 (omega arith))

  pub shifted_records : records b' ≡ records b
  shifted_records = omega (arith, shifted_size Membership, shifted_size Permission, shifted_size Filter)

pub spliced_is : {kind : Kind} {j n m s : ℕ} {b b₁ b₂ : List ℕ} → Shifted (place (j + n)) (place (j + m)) b b₁ → Resized kind s b₁ b₂
    → s + n ≡ size b kind + m → Spliced kind j n m b b₂
spliced_is w r e =
    record {
      same_length = r.rest.same_length ∙ w.same_length;
      below = λ t l h. r.rest.above t l ∙ w.below t (omega arith) (omega arith);
      moved = λ t. r.rest.above _ (omega arith) ∙ w.moved t;
      own = omega (arith, r.own);
      other = λ K ne. r.other K ne ∙ shifted_size w (omega arith) (omega arith) K;
      header = r.header;
    }
