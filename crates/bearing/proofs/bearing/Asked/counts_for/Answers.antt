-- `bearing::Asked::counts_for` meets its contract: name 0, or reached from the object.
use mathlib.Core.Logic.{inl, inr, ⊎_elim}
use native.Mathlib.Omega.{arith}
use Rattle.bearing.proofs.laws.Telling.{near_tells, tells_map, tells_yes}
use Rattle.bearing.proofs.bearing.Asked.counts_for.Goals as goal

pub returns-then-self-eq0 : goal.returns-then-self-eq0
returns-then-self-eq0 c =
    let pre = c.requires in
    tells_yes _ _ pre.0 pre.1 (inr c.if-self-eq0.true)

pub returns : goal.returns
returns c =
    let a = c.args.self in
    tells_map _ _ _ ((λ near. inl near), (λ either. ⊎_elim (λ near. near) (λ zero. absurd (c.if-self-eq0.false zero)) either)) _
    (near_tells _ _ _ _ a.object_named a.key_named (omega arith) _ c.is_near.ensures)
