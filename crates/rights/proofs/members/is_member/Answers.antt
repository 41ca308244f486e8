-- A membership by its capital letters.
use Rattle.index.specs.declared.Kind.TheVariants.{Membership}
use Rattle.index.proofs.laws.block.Records.{of_records}
use Rattle.directory.proofs.Numbered.{has_record}
use Rattle.rights.proofs.laws.held.Members.{member_says}
use Rattle.rights.proofs.laws.Known.{is_good}
use Rattle.rights.proofs.members.is_member.Goals as goal

pub returns : goal.returns
returns c =
    member_says (is_good c.args.block) c.requires (c.capitals_of.ensures.whole (has_record (is_good c.args.block) (of_records Membership _ _ c.requires)))
