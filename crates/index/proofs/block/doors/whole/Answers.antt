-- `doors::whole` meets its contract: record i is one of those that the block has all of.
use lib.Dec.{ltb}
use Rattle.index.proofs.laws.Answer.{less_says, says_same}
use Rattle.index.proofs.block.doors.whole.Goals as goal

pub returns : goal.returns
returns c =
    let i = c.args.i in
    let all = c.whole_records in
    says_same (ltb i all.result) (all.ensures i).0 (all.ensures i).1 (less_says i all.result)
