-- `grants::grant` meets its contract: the rights of the net mask that are in the mask.
use Rattle.index.specs.declared.Kind.TheVariants.{Permission}
use Rattle.index.proofs.laws.block.Masks.{mask_limited}
use Rattle.index.proofs.laws.block.Records.{of_records}
use Rattle.directory.proofs.Numbered.{has_record}
use Rattle.rights.proofs.laws.Known.{is_good}
use Rattle.rights.proofs.grants.grant.Goals as goal

pub returns : goal.returns
returns c =
    mask_limited (c.net_of.ensures.whole (has_record (is_good c.args.block) (of_records Permission _ _ c.requires))) c.args.mask
