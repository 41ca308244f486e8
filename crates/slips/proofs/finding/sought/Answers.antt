-- `finding::sought` meets its contract: the walks of both sides, the nearest granting record, and the names on the way to it.
use mathlib.Core.Path.{refl}
use mathlib.Core.Logic.{inl, inr}
use native.Mathlib.Omega.{arith}
use Rattle.index.specs.declared.Kind.TheVariants.{Permission}
use Rattle.index.proofs.laws.block.Records.{of_records}
use Rattle.directory.proofs.Numbered.{pair_key, pair_id}
use Rattle.rights.specs.Held.{Holds}
use Rattle.rights.proofs.laws.Known.{is_good}
use Rattle.slips.proofs.laws.Rights.{right_is, for_right}
use Rattle.slips.proofs.laws.Finding.{backs, not_held, granting, user_reached, object_reached, is_found}
use Rattle.slips.proofs.finding.sought.Goals as goal

pub returns-in_err-i : goal.returns-in_err-i
returns-in_err-i c =
    let good = is_good c.args.block in
    let right = c.args.right.small in
    rw c.from_residual.ensures
    (inr ((λ p. not_held good right c.walk.ensures c.walk-2.ensures c.in_err-i.ensures ((for_right (Holds _ _ _ _) (right_is _ right)).0 p)), refl))

pub trace-requires : goal.trace-requires
trace-requires c =
    let good = is_good c.args.block in
    let right = c.args.right.small in
    let at_i = c.in_ok-i.ensures in
    let l = of_records Permission _ _ (granting _ _ _ _ _ at_i) in
    let e = pair_id good l c.pair_of-pair.ensures in
    (backs good c.walk.ensures, (rw e (good.ids _ l), (rw e (user_reached good right c.walk.ensures c.walk-2.ensures _ at_i), c.requires.most_names_in_bounds.0)))

pub trace_object-requires : goal.trace_object-requires
trace_object-requires c =
    let good = is_good c.args.block in
    let right = c.args.right.small in
    let at_i = c.in_ok-i.ensures in
    let l = of_records Permission _ _ (granting _ _ _ _ _ at_i) in
    let e = pair_key good l c.pair_of-pair.ensures in
    (backs good c.walk-2.ensures, (rw e (good.keys _ l), (rw e (object_reached good right c.walk.ensures c.walk-2.ensures _ at_i), c.requires.most_names_in_bounds.1)))

pub returns : goal.returns
returns c =
    let good = is_good c.args.block in
    let right = c.args.right.small in
    let at_i = c.in_ok-i.ensures in
    let l = of_records Permission _ _ (granting _ _ _ _ _ at_i) in
    let to = pair_id good l c.pair_of-pair.ensures in
    let g = pair_key good l c.pair_of-pair.ensures in
    let user = rw to at c.trace.ensures in
    let object = rw g at c.trace_object.ensures in
    rw (user.1, object.1)
    (omega arith, inl (is_found good right c.walk.ensures c.walk-2.ensures _ at_i c.requires.passes.1.1.0 c.requires.passes.1.1.1 c.requires.most_names_in_bounds.0 c.requires.most_names_in_bounds.1 user.0 object.0))
