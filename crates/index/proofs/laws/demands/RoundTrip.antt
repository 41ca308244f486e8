-- What write_set wrote of a set, read_set takes back into any good block under any key as the same set, or refuses with 8
-- exactly where there is no room.
use Prim.Native.Nat.{ℕ}
use mathlib.Core.Path.{◌≡◌, refl, sym, ap, subst, ◌∙◌}
use mathlib.Core.List.{List}
use mathlib.Core.Logic.{inl, inr}
use native.Mathlib.Omega.{arith}
use lib.ListN.{length, take, drop}
use lib.Seq.{take_at}
use Rattle.index.specs.declared.Kind.{Kind}
use Rattle.index.specs.Block.{IsName, Sized, Good}
use Rattle.index.specs.Message.{kind_of, IsKind}
use Rattle.index.specs.Text.{Entry, text_of, set_of, IsSet, Writes, Replaced}
use Rattle.index.specs.Calls.{RoomFor, block_needs, set_needs, write_needs, Written, WritesSet, ReadsText, ReadsSet}
use Rattle.index.proofs.laws.Firsts.{first_passed, first_sure}
use Rattle.index.proofs.laws.text.SetCounts.{set_counts}
use Rattle.index.proofs.laws.text.OneSet.{one_set}
use Rattle.index.proofs.laws.text.TextOnce.{writes_once}
use Rattle.index.proofs.laws.text.IsSet.{is_set}

-- What an accepted write says: the block is good, the kind is one, and the text stands at the front of the buffer.
record Wrote (b : List ℕ) (kind x n : ℕ) (out' : List ℕ) : Type 0 where
  good : Good b
  is_kind : IsKind kind
  text : take n out' ≡ text_of (set_of b (kind_of kind) x)

accepted_write : (b : List ℕ) (kind x n : ℕ) (out out' : List ℕ) → WritesSet b kind x out (0, n, out') → Wrote b kind x n out'
unfolding WritesSet write_needs set_needs block_needs
accepted_write b kind x n out out' w =
    let r =
    first_passed (λ n. (n, 0, out)) (Written b kind x out) (0, n, out') (λ o. o.0) (λ n. refl) (write_needs b kind x out) (omega arith)
    refl w in
    let t = text_of (set_of b (kind_of kind) x) in
    let l : n ≡ length t = ap (λ (o : ℕ × ℕ × List ℕ). o.1) r.1 in
    record {
      good = r.0.1.0;
      is_kind = r.0.1.1.0;
      text = ap (take n) (ap (λ (o : ℕ × ℕ × List ℕ). o.2) r.1) ∙ take_at t (drop (length t) out) n (sym l);
    }

-- The set is then what was read.
replaced_set : {kind : Kind} {x : ℕ} {es : List Entry} {b b' : List ℕ} → IsSet kind es → Replaced kind x es b b' → set_of b' kind x ≡ es
replaced_set {kind} {x} {es} {b} {b'} s p =
    one_set (is_set p.good kind x) s (λ y k l. set_counts b' kind x y k ∙ p.set y k l)

module _
    (b : List ℕ)
    (kind x n : ℕ)
    (out out' : List ℕ)
    (w : WritesSet b kind x out (0, n, out'))
    (c : List ℕ)
    (z : ℕ)
    (o : ℕ × ℕ × List ℕ)
    (sized : Sized c)
    (good : Good c)
    (named : IsName z)
    (r : ReadsSet c kind z (take n out') o) where
  written : Writes (kind_of kind) (set_of b (kind_of kind) x) (take n out')
  unfolding Writes
  written =
      let v = accepted_write b kind x n out out' w in
      (is_set v.good (kind_of kind) x, sym v.text)

  same : (es : List Entry) → Writes (kind_of kind) es (take n out') → es ≡ set_of b (kind_of kind) x
  same es v = writes_once (kind_of kind) (take n out') es (set_of b (kind_of kind) x) v written

  -- What is left to answer once 1 to 4 have passed.
  left : ReadsText c (kind_of kind) z (take n out') o
  unfolding ReadsSet set_needs block_needs
  left =
      first_sure (λ n. (n, 0, c)) (ReadsText c (kind_of kind) z (take n out')) o (set_needs c kind z)
      (sized, (good, ((accepted_write b kind x n out out' w).is_kind, (named, tt)))) r

  abbrev pub Back : Type 0
  Back =
      (RoomFor c (kind_of kind) z (set_of b (kind_of kind) x)
      → (o.0 ≡ 0) × (o.1 ≡ length (set_of b (kind_of kind) x)) × (set_of o.2 (kind_of kind) z ≡ set_of b (kind_of kind) x))
      × ((RoomFor c (kind_of kind) z (set_of b (kind_of kind) x) → ⊥) → o ≡ (8, 0, c))

  pub round_trip : Back
  unfolding Writes
  round_trip = go left
    where
      go : ReadsText c (kind_of kind) z (take n out') o → Back
      go (inl f) = absurd (f.0 (set_of b (kind_of kind) x) written)
      go (inr (es, v, inl f)) = (λ h. absurd (f.0 (rw (same es v) h)), λ h. f.1)
      go (inr (es, v, inr f)) =
          let q = same es v in (
            λ h. (f.1.0, f.1.1 ∙ ap length q, replaced_set v.0 f.1.2 ∙ q),
            λ h. absurd (h (subst (RoomFor c (kind_of kind) z) q f.0)),
          )
