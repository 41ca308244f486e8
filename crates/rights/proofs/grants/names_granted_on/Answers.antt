-- `grants::names_granted_on` meets its contract: keys rise from the first P record to the last.
use Rattle.std.proofs.Common.{◌-◌, arith}
use Rattle.index.specs.declared.Kind.TheVariants.{Permission}
use Rattle.index.specs.Block.{Of}
use Rattle.index.proofs.laws.block.Records.{of_records}
use Rattle.directory.proofs.Numbered.{key_name, keys_rise, pair_key}
use Rattle.rights.proofs.laws.Known.{is_good}
use Rattle.rights.proofs.grants.names_granted_on.Goals as goal

pub returns : goal.returns
returns c =
    let good = is_good c.args.block in
    let part = c.part_of-part.ensures in
    let first : Of c.args.block.bytes.now Permission c.part_of-part.result.from = omega (arith, part.first, part.last, c.if-part.false) in
    let last : Of c.args.block.bytes.now Permission (c.part_of-part.result.end - 1) = omega (arith, part.first, part.last, c.if-part.false) in
    let low = pair_key good (of_records Permission _ _ first) c.pair_of-from.ensures in
    let high = pair_key good (of_records Permission _ _ last) c.pair_of-last.ensures in
    record {
      names = omega (arith, high, key_name good Permission last);
      within = λ i of. (
        omega (arith, low, keys_rise good Permission _ i (omega (arith, part.first, of.0)) first of),
        omega (arith, high, keys_rise good Permission i _ (omega (arith, part.last, of.1)) of last),
      );
    }
