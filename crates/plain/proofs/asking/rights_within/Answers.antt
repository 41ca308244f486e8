-- `asking::rights_within` meets its contract: the tests, and then the rights held.
use mathlib.Core.Path.{refl}
use mathlib.Core.List.{[], ◌∷◌}
use native.Mathlib.Omega.{arith}
use Rattle.std.proofs.lemmas.Grind.{merely}
use Rattle.std.proofs.lemmas.Result.{err_from_is_err_and}
use Rattle.index.proofs.laws.Firsts.{passed}
use Rattle.index.proofs.laws.Refusing.{some}
use Rattle.rights.specs.HeldTo.{limit_needs}
use Rattle.rights.specs.Profiles.{HoldsIn}
use Rattle.rights.specs.Questions.{Limited}
use Rattle.rights.proofs.laws.questions.Requiring.{every_asked, refused_every, refused_after, accepts}
use Rattle.plain.specs.Plain.{Small, Within, AsksWithin}
use Rattle.plain.proofs.asking.rights_within.Goals as goal

pub returns-in_err-ask_refusal : goal.returns-in_err-ask_refusal
unfolding AsksWithin Within limit_needs
returns-in_err-ask_refusal c =
    let r = err_from_is_err_and c.from_residual.result c.from_residual.ensures.1 in
    rw (r.1, r.2) (refused_every _ _ _ _ 14 _ (λ n. (n, 0)) _ (some _) c.in_err-ask_refusal.ensures)

pub returns-in_err-limit_refusal : goal.returns-in_err-limit_refusal
unfolding AsksWithin Within limit_needs
returns-in_err-limit_refusal c =
    let r = err_from_is_err_and c.from_residual-in_err-limit_refusal.result c.from_residual-in_err-limit_refusal.ensures.1 in
    rw (r.1, r.2) (refused_after _ _ _ _ 14 _ (λ n. (n, 0)) _ (every_asked _ _ _ _ refl c.in_ok-ask_refusal.ensures) (some _) c.in_err-limit_refusal.ensures)

pub invariant_of-block : goal.invariant_of-block
invariant_of-block c =
    let all = every_asked _ _ _ _ refl c.in_ok-ask_refusal.ensures in
    record { sized = merely all.sized; good = merely all.good }

pub overflow_cast-user : goal.overflow_cast-user
overflow_cast-user c = omega (arith, (every_asked _ _ _ _ refl c.in_ok-ask_refusal.ensures).user)

pub overflow_cast-object : goal.overflow_cast-object
overflow_cast-object c = omega (arith, (every_asked _ _ _ _ refl c.in_ok-ask_refusal.ensures).object)

pub overflow_cast-request : goal.overflow_cast-request
overflow_cast-request c = omega (arith, (every_asked _ _ _ _ refl c.in_ok-ask_refusal.ensures).small)

pub returns : goal.returns
unfolding AsksWithin Within limit_needs Limited HoldsIn
returns c =
    let last = passed ((14, Small c.args.block.now c.args.limit) ∷ []) (omega arith) refl c.in_ok-limit_refusal.ensures in
    accepts _ _ _ _ 14 _ (λ n. (n, 0)) _ (0, c.held.result) (every_asked _ _ _ _ refl c.in_ok-ask_refusal.ensures) last.0 (refl, c.held.ensures)
