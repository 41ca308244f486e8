-- `filter::narrowed_by` meets its contract: a group, or none.
use Rattle.std.proofs.Common.{not, ap}
use Rattle.index.specs.declared.Kind.TheVariants.{Membership}
use Rattle.index.proofs.laws.Answer.{yes_not}
use Rattle.index.proofs.laws.block.Masks.{mask_map}
use Rattle.index.proofs.laws.block.Records.{of_records}
use Rattle.directory.proofs.Numbered.{pair_id}
use Rattle.rights.proofs.laws.Known.{is_good}
use Rattle.rights.proofs.filter.narrowed_by.Goals as goal

pub returns : goal.returns
returns c =
    let is_id = pair_id (is_good c.args.source.now.block) (of_records Membership _ _ c.requires.0) c.pair_of.ensures in
    mask_map (rw is_id at c.narrowed.ensures) _
    (λ k h. (
      (λ p. ((λ m. p.0), p.1)),
      (λ p. (p.0 (yes_not c.is_member.result (ap not c.if-not-is_member.false) c.is_member.ensures), p.1)),
    ))
