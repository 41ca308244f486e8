-- `bearing::Asked::filter_bears` meets its contract: what one record reaches is the object or a group of its own.
use native.Mathlib.Omega.{arith}
use Rattle.bearing.proofs.laws.Telling.{near_tells, tells_map}
use Rattle.bearing.proofs.laws.Asking.{looked}
use Rattle.bearing.proofs.bearing.Asked.filter_bears.Goals as goal

pub returns : goal.returns
returns c =
    let a = c.args.self in
    tells_map _ _ _ (looked _ _ _) _ (near_tells _ _ _ _ a.object_named a.key_named (omega arith) _ c.is_near.ensures)
