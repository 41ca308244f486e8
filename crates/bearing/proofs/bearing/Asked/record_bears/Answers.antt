-- `bearing::Asked::record_bears` meets its contract, kind by kind.
use Rattle.bearing.specs.Bearing.{Bears}
use Rattle.bearing.proofs.bearing.Asked.record_bears.Goals as goal

pub returns-in-Membership : goal.returns-in-Membership
unfolding Bears
returns-in-Membership c = rw c.in-Membership.is c.membership_bears.ensures

pub returns-in-Permission : goal.returns-in-Permission
unfolding Bears
returns-in-Permission c = rw c.in-Permission.is c.permission_bears.ensures

pub returns-in-Filter : goal.returns-in-Filter
unfolding Bears
returns-in-Filter c = rw c.in-Filter.is c.filter_bears.ensures
