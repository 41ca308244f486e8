-- `doors::part_at` meets its contract: the parts lie one after the other.
use Rattle.directory.specs.Directory.{part_start}
use Rattle.directory.proofs.doors.part_at.Goals as goal

pub returns-in-Membership : goal.returns-in-Membership
unfolding part_start
returns-in-Membership c = rw c.in-Membership.is

pub returns-in-Permission : goal.returns-in-Permission
unfolding part_start
returns-in-Permission c = rw c.in-Permission.is

pub returns-in-Filter : goal.returns-in-Filter
unfolding part_start
returns-in-Filter c = rw c.in-Filter.is
