-- `starts::note_starts` meets its contract. The loop's invariant: the records from number i on are noted.
use Rattle.std.proofs.Common.{rules}
use Rattle.rights.proofs.laws.Known.{is_good}
use Rattle.slips.proofs.starts.note_starts.Goals as goal

pub loop-i-preserved : goal.loop-i-preserved
loop-i-preserved c = let good = is_good c.args.block in search (rules, good)
