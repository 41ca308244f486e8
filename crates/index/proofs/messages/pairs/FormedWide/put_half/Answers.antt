-- The pairs of each key of a half, one after the other.
use mathlib.Core.Path.{◌≡◌, ap, ◌∙◌}
use native.Mathlib.Omega.{arith}
use lib.Dec.{eqb}
use Rattle.index.specs.Message.{Half, kind_of, kind_in, mask_with}
use Rattle.index.specs.Wide.{list_length, list_offset, mask_in, names_from, names, pairs, wide_halves}
use Rattle.index.proofs.laws.message.WideKnown.{is_formed}
use Rattle.index.proofs.laws.message.NameLists.{inside, formed_place}
use Rattle.index.specs.work.Halves.{half_number}
use Rattle.index.proofs.laws.message.Halves.{half_below}
use Rattle.index.proofs.laws.message.EveryPair.{short_lists}
use Rattle.index.proofs.laws.message.PairsListed.{listing_none, key_more}
use Rattle.index.proofs.messages.pairs.FormedWide.put_half.Goals as goal

pub loop-i-init : goal.loop-i-init
unfolding names_from pairs
loop-i-init c = (omega arith, listing_none (eqb (half_number c.args.h) 1) c.args.at c.args.list.now)

pub number_at-requires : goal.number_at-requires
number_at-requires c =
    let s = c in
    omega
    (arith, inside s.args.self.bytes.now (formed_place (is_formed s.args.self)) c.keys_of-first.result c.keys_of-first.ensures.1, c.offset_at-keys.ensures.0, c.length_at-count.ensures.0, c.loop-i-test.true)

pub put_row-requires : goal.put_row-requires
put_row-requires c =
    let s = c in
    let short = short_lists s.args.self.bytes.now (is_formed s.args.self) (half_number s.args.h) (half_below s.args.h) in (
      omega (arith, short, ap (list_length c.args.self.bytes.now) c.keys_of-first.ensures.0, ap (list_length c.args.self.bytes.now) c.ids_of-second.ensures.0, s.requires, c.loop-i.invariant.0, c.loop-i.invariant.1.same_length, c.length_at-count.ensures.0, c.length_at-n.ensures.0, c.loop-i-test.true),
      omega (arith, inside s.args.self.bytes.now (formed_place (is_formed s.args.self)) c.ids_of-second.result c.ids_of-second.ensures.1, c.offset_at-ids.ensures.0, c.length_at-n.ensures.0),
      omega (arith, ap (λ (h : Half). h.key) c.pair_with-pair.ensures.half, c.number_at.ensures.small),
      c.pair_with-pair.ensures.small,
    )

pub loop-i-preserved : goal.loop-i-preserved
loop-i-preserved c =
    let s = c in
    let m = s.args.self.bytes.now in
    let h = half_number s.args.h in
    let pair = c.pair_with-pair.ensures.half in
    let keys = c.offset_at-keys.result in
    let ids = names_from m c.offset_at-ids.result c.length_at-n.result in (
      omega (arith, short_lists m (is_formed s.args.self) h (half_below s.args.h), ap (list_length c.args.self.bytes.now) c.keys_of-first.ensures.0, ap (list_length c.args.self.bytes.now) c.ids_of-second.ensures.0, c.loop-i.invariant.0, c.length_at-n.ensures.0),
      key_more (eqb h 1) (kind_of (kind_in m)) (mask_with m h (mask_in m h)) m keys c.loop-i.i ids c.loop-i.invariant.1 (rw (ap (λ (p : Half). p.kind) pair, ap (λ (p : Half). p.key) pair, ap (λ (p : Half). p.mask) pair, c.number_at.ensures.is, c.is_new.ensures) at c.put_row.ensures),
    )

pub returns : goal.returns
unfolding wide_halves names
returns c =
    let s = c in
    let short = short_lists s.args.self.bytes.now (is_formed s.args.self) (half_number s.args.h) (half_below s.args.h) in
    let all : c.loop-i.i ≡ c.length_at-count.result = omega (arith, c.loop-i-test.false) in (
      omega (arith, short, ap (list_length c.args.self.bytes.now) c.keys_of-first.ensures.0, ap (list_length c.args.self.bytes.now) c.ids_of-second.ensures.0, c.loop-i.invariant.0, c.length_at-count.ensures.0),
      (let m = s.args.self.bytes.now in
          let keys = c.keys_of-first.ensures.0 in
          let ids = c.ids_of-second.ensures.0 in
          rw (← (c.offset_at-keys.ensures.0 ∙ ap (list_offset m) keys), ← (c.length_at-count.ensures.0 ∙ ap (list_length m) keys), ← (c.offset_at-ids.ensures.0 ∙ ap (list_offset m) ids), ← (c.length_at-n.ensures.0 ∙ ap (list_length m) ids)) (rw all at c.loop-i.invariant.1)),
    )
