-- The pairs of one key, one after the other.
use Prim.Native.Nat.{◌+◌}
use mathlib.Core.Path.{◌≡◌}
use native.Mathlib.Omega.{arith}
use Rattle.index.specs.Message.{packed_change}
use Rattle.index.specs.Wide.{names_from}
use Rattle.index.specs.work.Edits.{half, change_of}
use Rattle.index.proofs.laws.message.Packing.{packed_back}
use Rattle.index.proofs.laws.message.NameLists.{name_at}
use Rattle.index.proofs.laws.message.PairsListed.{listing_none, row_more}
use Rattle.index.proofs.messages.pairs.put_row.Goals as goal

pub loop-i-init : goal.loop-i-init
unfolding names_from
loop-i-init c =
    let s = c.args in
    let e : s.at + 0 ≡ s.at = omega arith in
    rw e (listing_none s.adds s.at s.list.now)

pub loop-i-preserved : goal.loop-i-preserved
loop-i-preserved c =
    let s = c.args in
    let i = c.loop-i.i in
    let e : packed_change c.pack.result ≡ change_of s.adds (half s.c.kind s.c.key (name_at s.m.now s.ids i) s.c.mask) =
    rw (← c.number_at-name.ensures.is, c.pack.ensures, c.number-kind.ensures)
    (packed_back s.c.kind s.c.key c.number_at-name.result s.c.mask c.requires.2 c.number_at-name.ensures.small (omega (arith, c.requires.3)) s.adds) in
    row_more s.adds s.c.kind s.c.mask s.m.now s.c.key s.ids s.at i c.pack.result c.loop-i.invariant (omega (arith, c.loop-i.invariant.same_length, c.requires.0, c.loop-i-test.true)) e
