-- `groups::is_open` meets its contract: nobody is bound, the object is in no group, or a chain leads to her group.
use Rattle.std.proofs.Common.{not, ap}
use Rattle.index.proofs.laws.Answer.{yes_is, no_is, says_same}
use Rattle.rights.proofs.laws.Known.{is_good}
use Rattle.rights.proofs.laws.held.Grouping.{open_free, open_alone, open_grouped}
use Rattle.rights.proofs.groups.is_open.Goals as goal

pub returns-then-not-counts_x : goal.returns-then-not-counts_x
returns-then-not-counts_x c = open_free _ _ _ _ (is_good c.args.source.now.block) _ c.counts_x.ensures (ap not c.if-not-counts_x.true)

pub returns-then-in_no_group : goal.returns-then-in_no_group
returns-then-in_no_group c = open_alone _ _ _ _ (yes_is c.if-in_no_group.true c.in_no_group.ensures)

pub returns : goal.returns
returns c =
    let same = open_grouped _ _ _ _ (λ a. no_is c.if-in_no_group.false a c.in_no_group.ensures) in
    says_same c.in_hers.result same.0 same.1 c.in_hers.ensures
