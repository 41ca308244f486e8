-- `bearing::Asked::membership_bears` meets its contract: reached from the user, or else from the object.
use mathlib.Core.Logic.{inl, inr, ⊎_elim}
use native.Mathlib.Omega.{arith}
use Rattle.std.proofs.lemmas.Result.{err_from_is_err_and}
use Rattle.bearing.proofs.laws.Telling.{near_tells, tells_map, tells_refused, tells_yes, told_yes, told_no}
use Rattle.bearing.proofs.bearing.Asked.membership_bears.Goals as goal

pub returns-in_err-is_near : goal.returns-in_err-is_near
returns-in_err-is_near c =
    let a = c.args.self in
    let r = err_from_is_err_and c.from_residual.result c.from_residual.ensures.1 in
    rw (r.1, r.2) (tells_refused _ _ _ _ (near_tells _ _ _ _ a.user_named a.key_named (omega arith) _ c.in_err-is_near.ensures))

pub returns-then-branch : goal.returns-then-branch
returns-then-branch c =
    let a = c.args.self in
    let (sized, good, near) = told_yes _ _ (near_tells _ _ _ _ a.user_named a.key_named (omega arith) _ (rw c.if-branch.true at c.in_ok-is_near.ensures)) in
    tells_yes _ _ sized good (inl near)

pub returns : goal.returns
returns c =
    let a = c.args.self in
    let (sized, good, far) = told_no _ _ (near_tells _ _ _ _ a.user_named a.key_named (omega arith) _ (rw c.if-branch.false at c.in_ok-is_near.ensures)) in
    tells_map _ _ _ ((λ near. inr near), (λ either. ⊎_elim (λ near. absurd (far near)) (λ near. near) either)) _
    (near_tells _ _ _ _ a.object_named a.key_named (omega arith) _ c.is_near-2.ensures)
