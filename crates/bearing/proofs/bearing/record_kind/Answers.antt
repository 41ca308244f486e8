-- `bearing::record_kind` meets its contract: the kind, and then the four names.
use mathlib.Core.Path.{refl}
use mathlib.Core.Logic.{inl, inr, ⊎_elim}
use native.Mathlib.Omega.{arith}
use Rattle.index.specs.Block.{IsName}
use Rattle.index.specs.Numbers.{Answers}
use Rattle.index.specs.Message.{KindFrom}
use Rattle.index.proofs.laws.Refusing.{passed_on}
use Rattle.bearing.specs.Bearing.{record_needs}
use Rattle.bearing.proofs.bearing.record_kind.Goals as goal

pub returns-in_err-kind-clause-number : goal.returns-in_err-kind-clause-number
unfolding record_needs KindFrom
returns-in_err-kind-clause-number c =
    let a = c.args in
    let k = c.in_err-kind.ensures in
    passed_on (Answers (record_needs a.user a.object a.kind a.key a.id)) c.from_residual.result _ c.from_residual.ensures.1 (rw k.1 (inl (k.0, refl)))

pub returns-then-user-gt-LAST_NAME-clause-number : goal.returns-then-user-gt-LAST_NAME-clause-number
unfolding record_needs KindFrom
returns-then-user-gt-LAST_NAME-clause-number c =
    let above =
    λ (p : IsName c.args.user × IsName c.args.object × IsName c.args.key × IsName c.args.id).
    ⊎_elim (λ x. omega (arith, p.0)) (⊎_elim (λ x. omega (arith, p.1)) (⊎_elim (λ x. omega (arith, p.2)) (λ x. omega (arith, p.3)))) c.then-user-gt-LAST_NAME.either in
    inr (c.in_ok-kind.ensures.0, inl (above, refl))

pub returns-clause-number : goal.returns-clause-number
unfolding record_needs KindFrom
returns-clause-number c = inr (c.in_ok-kind.ensures.0, inr ((omega arith, omega arith, omega arith, omega arith), refl))

pub returns-clause-same : goal.returns-clause-same
unfolding KindFrom
returns-clause-same c = c.in_ok-kind.ensures.1
