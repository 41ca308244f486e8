-- `grants::bar` meets its contract: in the strict profile, the rights of the mask that the record denies.
use Rattle.index.specs.declared.Kind.TheVariants.{Permission}
use Rattle.index.proofs.laws.block.Masks.{mask_limited}
use Rattle.index.proofs.laws.block.Records.{of_records}
use Rattle.directory.proofs.Numbered.{has_record}
use Rattle.rights.proofs.laws.Known.{is_good}
use Rattle.rights.proofs.grants.bar.Goals as goal

pub returns-in-Strict : goal.returns-in-Strict
returns-in-Strict c =
    rw c.in-Strict.is
    (mask_limited (c.denials_of.ensures.whole (has_record (is_good c.args.block) (of_records Permission _ _ c.requires))) c.args.mask)
