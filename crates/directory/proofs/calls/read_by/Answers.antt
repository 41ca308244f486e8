-- `calls::read_by` meets its contract: refused for the directory; or the reading, and where it is of a set the directory made afresh.
use Rattle.std.proofs.lemmas.Result.{err_from_is_err_and}
use Rattle.index.specs.Calls.{ReadsSet}
use Rattle.index.proofs.laws.Refusing.{some}
use Rattle.directory.specs.By.{ReadBy, ReadAnswersBy}
use Rattle.directory.proofs.Keeping.{kept_refused, read_good, took_set, took_none}
use Rattle.directory.proofs.calls.read_by.Goals as goal

pub returns-in_err-owned : goal.returns-in_err-owned
unfolding ReadAnswersBy ReadBy
returns-in_err-owned c =
    let a = c.args in
    let r = err_from_is_err_and c.from_residual.result c.from_residual.ensures.1 in
    rw (r.1, r.2) (kept_refused a.block.now a.directory.now (ReadsSet a.block.now a.kind a.key a.text.now) (some _) c.in_err-owned.ensures.other)

pub returns-in_err-records : goal.returns-in_err-records
returns-in_err-records c =
    let a = c.args in
    let r = err_from_is_err_and c.from_residual-in_err-records.result c.from_residual-in_err-records.ensures.1 in
    rw (r.1, r.2) (took_none a.block.now a.kind a.key a.text.now _ a.directory.now c.in_ok-owned.ensures.own _ c.in_err-records.ensures)

pub fill-requires : goal.fill-requires
fill-requires c =
    let a = c.args in
    let good = read_good a.block.now a.kind a.key a.text.now _ _ c.in_ok-records.ensures in
    (good.1, (c.in_ok-owned.ensures.own good.0).whole)

pub returns : goal.returns
returns c =
    let a = c.args in
    took_set a.block.now a.kind a.key a.text.now _ a.directory.now c.in_ok-owned.ensures.own _ _ c.fill.ensures c.in_ok-records.ensures
