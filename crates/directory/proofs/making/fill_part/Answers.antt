-- `making::fill_part` meets its contract. The loop's invariant: the records passed are through, and the entries below x are written.
use Prim.Native.Nat.{ℕ, ◌+◌, ◌%◌, ◌<◌, ◌≤◌}
use mathlib.Core.Path.{◌≡◌}
use native.Mathlib.Omega.{arith}
use mathlib.Core.List.{List}
use Rattle.index.specs.declared.Kind.{Kind}
use Rattle.index.specs.Block.{key, Of, Good}
use Rattle.index.specs.Calls.{PairOf}
use Rattle.directory.specs.declared.Span.{Span}
use Rattle.directory.specs.Directory.{part_start}
use Rattle.directory.specs.Doors.{PartOf}
use Rattle.index.proofs.laws.block.Records.{of_records}
use Rattle.directory.proofs.Numbered.{pair_key, key_name, keys_rise, place_few}
use Rattle.directory.proofs.OneDirectory.{part_in}
use Rattle.directory.proofs.Writing.{through_same, through_more, part_filled}
use Rattle.directory.proofs.making.fill_part.Goals as goal
use Rattle.directory.proofs.making.fill_part.Goals.{then-x-next, else-x-next}

-- A record of the part is of the kind, and the door gives its key.
module _ {b : List ℕ} {kind : Kind} (good : Good b) {span : Span} (part : PartOf b kind span) {i : ℕ} (low : span.from ≤ i) (high : i < span.end) where
  of : Of b kind i
  of = (omega (arith, part.first), omega (arith, part.last))

  named : key b i < 1024
  named = key_name good kind of

  key_at : {r : ℕ} → PairOf b i r → r % 65536 ≡ key b i
  key_at = pair_key good (of_records kind b i of)

-- The part lies in the directory.
ends : (kind : Kind) {at : ℕ} → at ≡ part_start kind → at + 1025 ≤ 3075
ends kind e = omega (arith, e, part_in kind)

pub loop-i-preserved : goal.loop-i-preserved
loop-i-preserved c =
    let good = c.requires.0 in
    let kind = c.args.kind in
    let part = c.part_of-part.ensures in
    let inv = c.loop-i.invariant in
    let h = c.loop-i-test.true in
    let k = key_at good part inv.1.low h c.pair_of.ensures in
    elim c.if-x-next.branch [
      | then-x-next w ↦
          rw (w.directory-is, w.x-is, k) (
            omega arith,
            through_more
                (λ r s l m n. keys_rise good kind r s m (omega (arith, part.first, part.last)) (omega (arith, part.first, part.last)))
                inv.1 h (omega (arith, w.if-x-next.true)) (named good part inv.1.low h) (rw k at w.put.ensures) w.place_of.ensures,
          )
      | else-x-next w ↦ rw (w.directory-is, w.x-is) (omega arith, through_same inv.1 h (omega (arith, w.if-x-next.false)))
    ]

pub returns : goal.returns
returns c =
    let part = c.part_of-part.ensures in
    let inv = c.loop-i.invariant in
    let e : c.loop-i.i ≡ c.part_of-part.result.end = omega (arith, inv.0, c.loop-i-test.false) in
    part_filled c.args.kind part.first part.last c.part_at-at.ensures (rw e at inv.1) c.put-2.ensures c.place_of-2.ensures

pub overflow_add-at : goal.overflow_add-at
overflow_add-at c = omega (arith, ends c.args.kind c.part_at-at.ensures, c.loop-i.invariant.1.named)

pub overflow_add-at-then-x-next : goal.overflow_add-at-then-x-next
overflow_add-at-then-x-next c = omega (arith, ends c.args.kind c.part_at-at.ensures)

pub overflow_cast-place_of : goal.overflow_cast-place_of
overflow_cast-place_of c =
    omega (arith, c.place_of.ensures, place_few c.requires.0 c.args.kind c.loop-i.i (omega (arith, of c.requires.0 c.part_of-part.ensures c.loop-i.invariant.1.low c.loop-i-test.true)))

pub put-requires : goal.put-requires
put-requires c =
    let good = c.requires.0 in
    let part = c.part_of-part.ensures in
    let low = c.loop-i.invariant.1.low in
    let high = c.loop-i-test.true in
    let k = key_at good part low high c.pair_of.ensures in
    let n = named good part low high in
    (omega (arith, c.if-x-next.true), omega (arith, ends c.args.kind c.part_at-at.ensures, k, n, c.loop-i.invariant.1.rest.same_length, c.requires.1))

pub overflow_add-at-2 : goal.overflow_add-at-2
overflow_add-at-2 c = omega (arith, ends c.args.kind c.part_at-at.ensures, c.loop-i.invariant.1.named)

pub overflow_add-at-3 : goal.overflow_add-at-3
overflow_add-at-3 c = omega (arith, ends c.args.kind c.part_at-at.ensures)

pub overflow_cast-place_of-2 : goal.overflow_cast-place_of-2
overflow_cast-place_of-2 c = omega (arith, c.place_of-2.ensures, c.part_of-part.ensures.last, place_few c.requires.0 c.args.kind c.part_of-part.result.end (omega (arith, c.part_of-part.ensures.last)))

pub put-requires-2 : goal.put-requires-2
put-requires-2 c = (omega (arith, c.loop-i.invariant.1.named), omega (arith, ends c.args.kind c.part_at-at.ensures, c.loop-i.invariant.1.rest.same_length, c.requires.1))
