-- A list of changes is refused by its tests, or carried out.
use mathlib.Core.Path.{refl}
use Rattle.index.specs.Message.{Carried, packed_changes}
use Rattle.index.specs.Calls.{list_needs, CarriesOut}
use Rattle.index.proofs.laws.message.ListTests.{list_passed, list_prepared}
use Rattle.index.proofs.laws.Firsts.{first_all, refuses}
use Rattle.index.proofs.laws.Refusing.{some, passed_on}
use Rattle.index.proofs.messages.lists.carry_out.Goals as goal

pub returns-in_err-list_refused : goal.returns-in_err-list_refused
unfolding CarriesOut
returns-in_err-list_refused c =
    let b = c.args.block.now in
    let cs = c.args.changes.now in
    passed_on (λ n. CarriesOut b cs (n, b)) c.from_residual.result _ c.from_residual.ensures.1
    (refuses (λ n. (n, b)) (Carried b (packed_changes cs) b) (list_needs b cs) (some _) c.in_err-list_refused.ensures)

pub run-requires : goal.run-requires
run-requires c = list_prepared c.args.block.now c.args.changes.now refl c.in_ok-list_refused.ensures

pub returns : goal.returns
unfolding CarriesOut
returns c =
    let b = c.args.block.now in
    let cs = c.args.changes.now in
    first_all (λ n. (n, b)) _ _ (list_needs b cs) (list_passed b cs refl c.in_ok-list_refused.ensures) c.run.ensures
