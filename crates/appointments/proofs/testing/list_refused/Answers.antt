-- The tests of a list of appointments.
use Rattle.std.proofs.Common.{arith}
use Rattle.appointments.proofs.laws.Tested.{not_whole, not_formed, not_named, not_lettered, not_few, not_termed, all_tested}
use Rattle.appointments.proofs.testing.list_refused.Goals as goal

pub returns-then-list-ne0 : goal.returns-then-list-ne0
returns-then-list-ne0 c = not_whole c.args.list.now c.if-list-ne0.true

pub returns-then-not-all_pass : goal.returns-then-not-all_pass
returns-then-not-all_pass c =
    let w = c.all_pass.ensures.no c.if-not-all_pass.true in
    not_formed c.args.list.now (w.0, w.1, w.2.1)

pub returns-then-not-all_pass-2 : goal.returns-then-not-all_pass-2
returns-then-not-all_pass-2 c =
    let w = c.all_pass-2.ensures.no c.if-not-all_pass-2.true in
    not_named c.args.list.now (omega (arith, c.if-list-ne0.false)) (λ i h. (c.all_pass.ensures.yes c.if-not-all_pass.false i h).1)
    (w.0, w.1, w.2.1)

pub returns-then-not-all_pass-3 : goal.returns-then-not-all_pass-3
returns-then-not-all_pass-3 c =
    let w = c.all_pass-3.ensures.no c.if-not-all_pass-3.true in
    not_lettered c.args.list.now (omega (arith, c.if-list-ne0.false)) (λ i h. (c.all_pass.ensures.yes c.if-not-all_pass.false i h).1)
    (λ i h. (c.all_pass-2.ensures.yes c.if-not-all_pass-2.false i h).1) (λ j. omega (arith, c.type_inv.list j)) (w.0, w.1, w.2.1)

pub returns-then-count_in-gt-MOST : goal.returns-then-count_in-gt-MOST
returns-then-count_in-gt-MOST c =
    not_few c.args.list.now (omega (arith, c.if-list-ne0.false)) (λ i h. (c.all_pass.ensures.yes c.if-not-all_pass.false i h).1)
    (λ i h. (c.all_pass-2.ensures.yes c.if-not-all_pass-2.false i h).1) (λ j. omega (arith, c.type_inv.list j))
    (λ i h. (c.all_pass-3.ensures.yes c.if-not-all_pass-3.false i h).1) (λ few. omega (arith, few, c.if-count_in-gt-MOST.true, c.count_in.ensures))

pub returns-then-not-all_pass-4 : goal.returns-then-not-all_pass-4
returns-then-not-all_pass-4 c =
    let w = c.all_pass-4.ensures.no c.if-not-all_pass-4.true in
    not_termed c.args.list.now (omega (arith, c.if-list-ne0.false)) (λ i h. (c.all_pass.ensures.yes c.if-not-all_pass.false i h).1)
    (λ i h. (c.all_pass-2.ensures.yes c.if-not-all_pass-2.false i h).1) (λ j. omega (arith, c.type_inv.list j))
    (λ i h. (c.all_pass-3.ensures.yes c.if-not-all_pass-3.false i h).1) (w.0, w.1, w.2.1)

pub returns : goal.returns
returns c =
    all_tested c.args.list.now (omega (arith, c.if-list-ne0.false)) (λ i h. (c.all_pass.ensures.yes c.if-not-all_pass.false i h).1)
    (λ i h. (c.all_pass-2.ensures.yes c.if-not-all_pass-2.false i h).1) (λ j. omega (arith, c.type_inv.list j))
    (λ i h. (c.all_pass-3.ensures.yes c.if-not-all_pass-3.false i h).1) (omega (arith, c.if-count_in-gt-MOST.false, c.count_in.ensures))
    (λ i h. (c.all_pass-4.ensures.yes c.if-not-all_pass-4.false i h).1)
