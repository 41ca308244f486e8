-- `filter::narrowed` meets its contract. The loop's invariant: the mask, narrowed by the F records of the name before i.
use mathlib.Core.Logic.{inl}
use Rattle.index.specs.declared.Kind.TheVariants.{Filter}
use Rattle.index.proofs.laws.block.Masks.{mask_map, mask_limited}
use Rattle.index.proofs.laws.block.Records.{of_records}
use Rattle.directory.proofs.Numbered.{has_record}
use Rattle.rights.proofs.laws.held.Filters.{lets}
use Rattle.rights.proofs.laws.held.Sifting.{sifted_more, sifted_all}
use Rattle.rights.proofs.laws.Known.{is_good}
use Rattle.rights.proofs.filter.narrowed.Goals as goal

pub loop-i-preserved : goal.loop-i-preserved
loop-i-preserved c =
    let records = c.records_of-records in
    let loop = c.loop-i in
    let of = ((records.ensures loop.i).0 (loop.invariant.low, c.loop-i-test.true)).0 in
    let has = has_record (is_good c.args.source.now.block) (of_records Filter _ loop.i of) in
    sifted_more records.result loop.invariant records.ensures c.loop-i-test.true (mask_limited (c.net_of-left.ensures.whole has) loop.left)

pub returns : goal.returns
returns c =
    let records = c.records_of-records in
    mask_map (sifted_all records.result c.loop-i.invariant records.ensures (inl c.loop-i-test.false)) _
    (λ k h. let same = lets (is_good c.args.source.now.block) k h c.args.name in ((λ p. (same.0 p.0, p.1)), (λ p. (same.1 p.0, p.1))))
