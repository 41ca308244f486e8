-- The offset of each list is compared with the end of the one before, and the last end with that of the message.
use Prim.Native.Nat.{◌+◌, ◌*◌}
use mathlib.Core.Path.{◌≡◌, refl}
use native.Mathlib.Omega.{arith}
use native.Mathlib.Numerals.{add-one}
use borrow.Author.Count.{below_none, below_more}
use Rattle.index.specs.Wide.{list_length, list_place}
use Rattle.index.proofs.messages.names.WideHeader.in_place.Goals as goal

pub loop-q-init : goal.loop-q-init
unfolding list_place
loop-q-init c = (omega arith, refl, below_none _)

pub loop-q-preserved : goal.loop-q-preserved
unfolding list_place
loop-q-preserved c =
    let m = c.args.self.bytes.now in
    let next : list_place m (c.loop-q.q + 1) ≡ list_place m c.loop-q.q + 2 * list_length m c.loop-q.q = rw add-one in (
      omega (arith, c.loop-q.invariant.0, c.length_at.ensures.1),
      omega (arith, next, c.loop-q.invariant.1, c.length_at.ensures.0),
      below_more _ _ c.loop-q.invariant.2 (omega (arith, c.offset_at.ensures.0, c.loop-q.invariant.1, c.if-offset_at-place.false)),
    )
