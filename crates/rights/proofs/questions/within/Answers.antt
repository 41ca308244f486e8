-- `questions::within` meets its contract: the filters, what is granted, and whether the object is open.
use Rattle.index.proofs.laws.block.Masks.{mask_limited}
use Rattle.rights.proofs.laws.questions.Asking.{limited}
use Rattle.rights.proofs.questions.within.Goals as goal

pub returns-clause-limited : goal.returns-clause-limited
returns-clause-limited c =
    let q = c.args.question in
    limited q.profile c.args.limit c.args.source.now.block.bytes.now q.user q.object q.request (mask_limited c.filter_of.ensures q.request)
    c.granted-reach.ensures.mask c.opened.ensures
