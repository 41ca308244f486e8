-- A move: the tests, then the changes that are gathered and carried out.
use Rattle.std.proofs.Common.{refl, arith}
use Rattle.index.proofs.laws.Refusing.{some, passed_on}
use Rattle.index.proofs.laws.message.PairsListed.{both_listed}
use Rattle.appointments.specs.Appointment.{standing_only}
use Rattle.appointments.specs.Moves.{Moved}
use Rattle.appointments.proofs.laws.Picked.{no_more}
use Rattle.appointments.proofs.laws.Moving.{block_refuses, list_refuses, in_range, carried}
use Rattle.appointments.proofs.moving.moved.Goals as goal

pub returns-in_err-tested : goal.returns-in_err-tested
returns-in_err-tested c =
    let a = c.args in
    passed_on (λ n. Moved a.block.now a.list.now a.old a.new (n, a.block.now)) c.from_residual.result _ c.from_residual.ensures.1
    (block_refuses a.list.now a.old a.new a.block.now (some _) c.in_err-tested.ensures)

pub returns-in-Err : goal.returns-in-Err
returns-in-Err c =
    list_refuses c.args.list.now c.args.old c.args.new c.args.block.now refl c.in_ok-tested.ensures (some _) c.in-Err.ensures

pub gather-middle-requires : goal.gather-middle-requires
gather-middle-requires c =
    let a = c.args in
    let i = in_range a.list.now a.old a.new c.in_default.ensures in
    (i, omega (arith, i.few, no_more a.list.now a.old a.new))

pub gather-end-requires : goal.gather-end-requires
gather-end-requires c =
    let a = c.args in
    let i = in_range a.list.now a.old a.new c.in_default.ensures in
    (i, omega (arith, i.few, no_more a.list.now a.old a.new, c.gather-middle.ensures.0, c.gather-middle.ensures.1.same_length))

pub returns : goal.returns
returns c =
    let l = c.args.list.now in
    let old = c.args.old in
    let new = c.args.new in
    carried l old new c.args.block.now (λ j. omega (arith, c.type_inv.list j)) _ _ c.in_default.ensures
    (both_listed (standing_only l old new) (standing_only l new old) c.gather-middle.ensures.1 c.gather-end.ensures.1)
    c.carry_out.ensures
