-- `calls::write_by` meets its contract: refused for the directory, or the call without it.
use Prim.Native.Nat.{ℕ}
use mathlib.Core.List.{List}
use Rattle.std.proofs.lemmas.Result.{err_from_is_err_and}
use Rattle.index.proofs.laws.Refusing.{some}
use Rattle.directory.specs.By.{WriteBy, WriteAnswersBy}
use Rattle.directory.proofs.Passing.{by_refused, write_by_own}
use Rattle.directory.proofs.calls.write_by.Goals as goal

pub returns-in_err-owned : goal.returns-in_err-owned
unfolding WriteAnswersBy WriteBy
returns-in_err-owned c =
    let r = err_from_is_err_and c.from_residual.result c.from_residual.ensures.1 in
    rw (r.1, r.2) (by_refused {O = ℕ × ℕ × List ℕ} _ _ _ _ (some _) c.in_err-owned.ensures.other)

pub returns : goal.returns
returns c = write_by_own _ _ _ _ _ _ _ c.in_ok-owned.ensures.own c.write_set.ensures
