-- `testing::right_of` meets its contract: the four masks, and any other.
use Rattle.std.proofs.Common.{arith}
use Rattle.slips.proofs.laws.Rights.{right_is, right_none}
use Rattle.slips.proofs.testing.right_of.Goals as goal

pub returns-in-1 : goal.returns-in-1
returns-in-1 c = rw c.in-1.is (right_is 0 (omega arith))

pub returns-in-2 : goal.returns-in-2
returns-in-2 c = rw c.in-2.is (right_is 1 (omega arith))

pub returns-in-4 : goal.returns-in-4
returns-in-4 c = rw c.in-4.is (right_is 2 (omega arith))

pub returns-in-8 : goal.returns-in-8
returns-in-8 c = rw c.in-8.is (right_is 3 (omega arith))

pub returns-in_default : goal.returns-in_default
returns-in_default c =
    right_none _ (λ e. omega arith) (λ e. omega arith) (λ e. omega arith) (λ e. omega arith)
