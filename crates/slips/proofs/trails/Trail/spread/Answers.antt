-- `trails::Trail::spread` meets its contract. The loop's invariant: the records of the name before number i have been looked at.
use mathlib.Core.Path.{sym, ◌∙◌}
use native.Mathlib.Omega.{arith}
use Rattle.index.specs.declared.Kind.TheVariants.{Membership}
use Rattle.index.proofs.laws.block.Records.{of_records}
use Rattle.directory.proofs.Numbered.{pair_key}
use Rattle.rights.proofs.laws.Known.{is_good}
use Rattle.slips.proofs.laws.Listing.{few}
use Rattle.slips.proofs.laws.Walking.{to_last}
use Rattle.slips.proofs.trails.Trail.spread.Goals as goal

pub offset_bounds-reached-p : goal.offset_bounds-reached-p
offset_bounds-reached-p c = record { fits = omega (arith, few c.requires.listed, c.requires.begins.1.1) }

pub bounds-reached-p : goal.bounds-reached-p
bounds-reached-p c = omega (arith, few c.requires.listed, c.requires.begins.1.1)

pub loop-i-preserved : goal.loop-i-preserved
loop-i-preserved c =
    let inv = c.loop-i.invariant in
    let l = c.look.ensures.listed_2 in
    let key_is = pair_key (is_good c.args.block) (of_records Membership _ _ (omega arith, omega (arith, c.loop-i-test.true, c.size_of-end.ensures))) c.pair_of.ensures in
    let e = sym key_is ∙ c.if-pair_of-x.false ∙ sym inv.1.0 in
    ((omega (arith, inv.0.0), omega (arith, inv.0.1, l.1.0)), (l.1.1 c.args.p (omega (arith, inv.0.1, c.requires.begins.1.1)) ∙ inv.1.0, (l.0, λ start lo hi low high t. c.look.ensures.trails start lo hi c.args.p e low high (inv.1.1.1 start lo hi low high t))))

pub returns-after-loop-i-clause-by_index : goal.returns-after-loop-i-clause-by_index
returns-after-loop-i-clause-by_index c start lo hi low high t =
    let inv = c.loop-i.invariant in
    to_last (is_good c.args.block) low high c.requires.begins.1.0 (sym inv.1.0) inv.0.0 (λ l _. omega (arith, c.loop-i-test.false, c.size_of-end.ensures)) (inv.1.1.1 start lo hi low high t)

pub returns-then-pair_of-x-clause-by_index : goal.returns-then-pair_of-x-clause-by_index
returns-then-pair_of-x-clause-by_index c start lo hi low high t =
    let inv = c.loop-i.invariant in
    let key_is = pair_key (is_good c.args.block) (of_records Membership _ _ (omega arith, omega (arith, c.loop-i-test.true, c.size_of-end.ensures))) c.pair_of.ensures in
    to_last (is_good c.args.block) low high c.requires.begins.1.0 (sym inv.1.0) inv.0.0 (λ l e. c.if-pair_of-x.true (key_is ∙ e)) (inv.1.1.1 start lo hi low high t)
