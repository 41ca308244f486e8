-- `bearing::bears` meets its contract: the tests of the record, and then whether it bears.
use mathlib.Core.Path.{subst}
use Rattle.std.proofs.lemmas.Result.{err_from_is_err_and}
use Rattle.bearing.specs.Bearing.{Bears}
use Rattle.bearing.specs.work.Telling.{Tells}
use Rattle.bearing.proofs.laws.Asking.{refused_block, refused, record_passed, told}
use Rattle.bearing.proofs.bearing.bears.Goals as goal

pub invariant_of-record_bears : goal.invariant_of-record_bears
invariant_of-record_bears c =
    let names = record_passed _ _ _ _ _ c.in-Ok.ensures.number in
    record { user_named = names.0; object_named = names.1.0; key_named = names.1.1.0; id_named = names.1.1.1 }

pub returns-in-Ok : goal.returns-in-Ok
returns-in-Ok c =
    let a = c.args in
    told _ _ _ _ _ _ c.in-Ok.ensures.number _
    (subst (λ kind. Tells a.block.now (Bears a.block.now a.user a.object kind a.key a.id) c.record_bears.result) c.in-Ok.ensures.same c.record_bears.ensures)

pub returns-in_err-tested-in-Err : goal.returns-in_err-tested-in-Err
returns-in_err-tested-in-Err c =
    let r = err_from_is_err_and c.from_residual.result c.from_residual.ensures.1 in
    rw (r.1, r.2) (refused_block _ _ _ _ _ _ _ c.in_err-tested-in-Err.ensures)

pub returns-in_ok-tested-in-Err : goal.returns-in_ok-tested-in-Err
returns-in_ok-tested-in-Err c = refused _ _ _ _ _ _ _ c.in_ok-tested-in-Err.ensures c.in-Err.ensures.number
