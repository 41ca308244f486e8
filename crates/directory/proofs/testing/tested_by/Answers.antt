-- `testing::tested_by` meets its contract: where the directory is a good block's own, the tests of the block decide.
use Rattle.index.specs.Numbers.{Answers}
use Rattle.index.proofs.laws.Refusing.{passed_on}
use Rattle.directory.specs.By.{directory_needs}
use Rattle.directory.proofs.Passing.{tested_own}
use Rattle.directory.proofs.testing.tested_by.Goals as goal

pub returns-in_err-owned : goal.returns-in_err-owned
returns-in_err-owned c =
    passed_on (Answers (directory_needs c.args.block.now c.args.directory.now)) c.from_residual.result _ c.from_residual.ensures.1 c.in_err-owned.ensures.other

pub returns : goal.returns
returns c = tested_own _ _ _ c.in_ok-owned.ensures.own c.tested.ensures
