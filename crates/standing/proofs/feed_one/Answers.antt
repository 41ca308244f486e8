-- `standing::feed_one` meets its contract: what is taken in are the bytes read, and what is written out is their line.
use Rattle.std.proofs.Common.{refl, arith, inr}
use Rattle.std.proofs.KnownBytes.{Appends-nil}
use Rattle.std.proofs.Math.Seq.{take_all}
use Rattle.std.proofs.lemmas.Result.{err_from_is_err_and}
use Rattle.std.proofs.lemmas.Grind.{common_steps}
use Rattle.standing.specs.Promised.{Came, Broken}
use Rattle.standing.proofs.feed_one.Goals as goal

pub returns-in_err-got-clause-broken : goal.returns-in_err-got-clause-broken
unfolding Broken
returns-in_err-got-clause-broken g c = grind (arith, common_steps)

pub returns-then-got-eq0-clause-came : goal.returns-then-got-eq0-clause-came
unfolding Came
returns-then-got-eq0-clause-came g c =
    let read = c.in_ok-got.ensures in
    (refl, record { taken = rw c.if-got-eq0.true at read.bytes; given = Appends-nil _ }, read.end (omega arith))

pub returns-in_err-write_all-clause-broken : goal.returns-in_err-write_all-clause-broken
unfolding Broken
returns-in_err-write_all-clause-broken g c =
    let p = err_from_is_err_and c.from_residual-in_err-write_all.result c.from_residual-in_err-write_all.ensures.1 in
    let most = c.in_ok-got.ensures.within in
    rw p.1 (inr (c.in_ok-got.got, c.take_in-long.result, omega arith, omega arith, c.take_in-long.ensures))

pub returns-then-got-lt-MESSAGE-clause-came : goal.returns-then-got-lt-MESSAGE-clause-came
unfolding Came
returns-then-got-lt-MESSAGE-clause-came g c =
    let read = c.in_ok-got.ensures in (
      c.in_ok-got.got,
      c.take_in-long.result,
      omega arith,
      omega arith,
      c.take_in-long.ensures,
      record { taken = read.bytes; given = c.in_ok-write_all.ensures.bytes },
      read.end (omega arith),
    )

pub returns-clause-came : goal.returns-clause-came
unfolding Came
returns-clause-came g c =
    let whole = take_all c.in_ok-got.got c.read_full.new.buffer (omega arith) in (
      c.take_in-long.result,
      rw whole at c.take_in-long.ensures,
      record { taken = rw whole at c.in_ok-got.ensures.bytes; given = c.in_ok-write_all.ensures.bytes },
    )
