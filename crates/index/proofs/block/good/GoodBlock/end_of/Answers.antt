-- The record after those of one key: the search goes through them, one after the other.
use Prim.Native.Nat.{ℕ, ◌+◌, ◌*◌, ◌<◌, ◌≤◌}
use mathlib.Core.Path.{◌≡◌}
use mathlib.Core.List.{List}
use native.Mathlib.Omega.{arith}
use Rattle.index.specs.declared.Kind.{Kind}
use Rattle.index.specs.Block.{name_count, key, from, size, Of, Good, records}
use Rattle.index.specs.work.Edits.{Lowest}
use Rattle.index.proofs.laws.block.Finding.{Between, at_last, in_part, upper_half, lower_half}
use Rattle.index.proofs.laws.block.Known.{is_good}
use Rattle.index.proofs.laws.block.Records.{of_records}
use Rattle.index.proofs.block.good.GoodBlock.end_of.Goals as goal

-- Record i of the part, which stands where the search has come to.
module _ {b : List ℕ} (kind : Kind) (x : ℕ) {first i last : ℕ} (s : first ≡ from b kind) (e : last ≡ from b kind + size b kind) (g : Good b)
    (h : i < last) (w : Between b (name_count * (x + 1)) first last i last) where
  of : Of b kind i
  of = in_part kind s e g i (omega arith) h w

  number : i < records b
  number = of_records kind b i of

  next : key b i ≡ x → Between b (name_count * (x + 1)) first last (i + 1) last
  next q = upper_half kind s e g i (omega arith) h w (omega (arith, q, g.ids i number))

  here : {start : ℕ} → Lowest b kind (name_count * x) start → start ≤ i → (key b i ≡ x → ⊥) → Lowest b kind (name_count * (x + 1)) i
  here l m n =
      at_last kind s e (lower_half kind s e g i (omega arith) h w (omega (arith, n, g.ids i number, l.above i of m))) (omega arith)

pub returns-then-key : goal.returns-then-key
returns-then-key c =
    here c.args.kind c.args.key (omega arith) (omega arith) (is_good c.args.self) c.loop-i-test.true c.loop-i.invariant c.requires c.loop-i.auto.i (omega arith)
