-- `lookup::first_of` meets its contract: by the directory, or by halves.
use Rattle.std.proofs.Common.{arith}
use Rattle.directory.proofs.ByEntry.{by_entry}
use Rattle.rights.proofs.laws.Known.{own_known}
use Rattle.rights.proofs.lookup.first_of.Goals as goal

pub returns-in-Some : goal.returns-in-Some
returns-in-Some c =
    by_entry c.args.kind c.args.name c.record_by.result (own_known _ _ (rw c.in-Some.is at c.args.source.now.own)) (omega (arith, c.requires)) c.record_by.ensures
