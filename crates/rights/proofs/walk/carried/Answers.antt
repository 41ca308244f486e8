-- `walk::carried` meets its contract: the capital letters of an M record, or all four rights if it is a membership as the walk asks.
use Rattle.index.specs.declared.Kind.TheVariants.{Membership}
use Rattle.index.proofs.laws.block.Records.{of_records}
use Rattle.directory.proofs.Numbered.{has_record}
use Rattle.rights.proofs.laws.held.Members.{all_if, carries_says}
use Rattle.rights.proofs.laws.Known.{is_good}
use Rattle.rights.proofs.walk.carried.Goals as goal

pub returns-in-Rights : goal.returns-in-Rights
returns-in-Rights c =
    let g = is_good c.args.block in
    let of = c.requires in
    rw c.in-Rights.is
    (carries_says g of (c.capitals_of.ensures.whole (has_record g (of_records Membership c.args.block.bytes.now c.args.i of))))

pub returns-in-WithoutN : goal.returns-in-WithoutN
returns-in-WithoutN c = rw c.in-WithoutN.is (all_if c.leads.result c.leads.ensures c.all_if.ensures)
