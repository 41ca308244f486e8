-- The number of each kind.
use mathlib.Core.Path.{sym}
use Rattle.std.proofs.Common.{ap}
use Rattle.index.specs.Message.{kind_number}
use Rattle.index.proofs.Kind.number.Goals as goal

pub returns-in-Membership : goal.returns-in-Membership
unfolding kind_number
returns-in-Membership c = ap kind_number (sym c.in-Membership.is)

pub returns-in-Permission : goal.returns-in-Permission
unfolding kind_number
returns-in-Permission c = ap kind_number (sym c.in-Permission.is)

pub returns-in-Filter : goal.returns-in-Filter
unfolding kind_number
returns-in-Filter c = ap kind_number (sym c.in-Filter.is)
