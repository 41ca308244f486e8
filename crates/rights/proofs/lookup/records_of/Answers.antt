-- `lookup::records_of` meets its contract: by the directory; or on from the first.
use Rattle.std.proofs.Common.{◌+◌, arith}
use Rattle.directory.proofs.ByEntry.{by_entry}
use Rattle.rights.proofs.laws.Known.{own_known}
use Rattle.rights.proofs.laws.walk.Looking.{keyed_by}
use Rattle.rights.proofs.lookup.records_of.Goals as goal

pub returns-in-Some : goal.returns-in-Some
returns-in-Some c =
    let kind = c.args.kind in
    let name = c.args.name in
    let own = own_known _ _ (rw c.in-Some.is at c.args.source.now.own) in
    keyed_by kind name c.first_of-from.result c.record_by-end.result c.first_of-from.ensures
    (by_entry kind (name + 1) c.record_by-end.result own (omega (arith, c.requires)) c.record_by-end.ensures)
