-- `finding::better` meets its contract: the record is passed by, or it is the best.
use Rattle.std.proofs.Common.{rules}
use Rattle.rights.proofs.laws.Known.{is_good}
use Rattle.slips.proofs.finding.better.Goals as goal

pub returns-then-steps-best : goal.returns-then-steps-best
returns-then-steps-best c = let good = is_good c.args.block in search (rules, good)

pub returns : goal.returns
returns c = let good = is_good c.args.block in search (rules, good)
