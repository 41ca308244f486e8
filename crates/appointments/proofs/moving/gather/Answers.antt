-- Changes are gathered from a list of appointments.
use Rattle.std.proofs.Common.{◌<◌, ◌≡◌, sym, ap, ◌∙◌, arith}
use Rattle.appointments.specs.Appointment.{list_size, appointment_at, only_on}
use Rattle.appointments.specs.work.Listed.{entry, appointment_of}
use Rattle.appointments.proofs.laws.Gathered.{gathered_none, gathered_room, gathered_one, gathered_other, gathered_all}
use Rattle.appointments.proofs.laws.Tested.{of_entry}
use Rattle.appointments.proofs.moving.gather.Goals as goal
use Rattle.appointments.proofs.moving.gather.Goals.{then-only_on, else-only_on}

pub loop-i-init : goal.loop-i-init
loop-i-init c = gathered_none c.args.list.now c.args.adds c.args.day c.args.other c.args.at c.args.changes.now

pub only_on-requires : goal.only_on-requires
unfolding entry appointment_at
only_on-requires c =
    rw c.entry_at-entry.ensures (c.requires.0.terms c.loop-i.i (omega (arith, c.count_in-i-end.ensures, c.loop-i-test.true)))

pub bounds-changes-place : goal.bounds-changes-place
bounds-changes-place c =
    let e = ap appointment_of c.entry_at-entry.ensures ∙ of_entry c.args.list.now c.loop-i.i in
    gathered_room c.args.list.now c.args.adds c.args.day c.args.other c.args.at c.args.changes.now c.loop-i.i c.loop-i.place c.loop-i.changes
    c.loop-i.invariant (omega (arith, c.count_in-i-end.ensures, c.loop-i-test.true)) (rw (← e) (sym c.only_on.ensures ∙ c.if-only_on.true)) c.requires.1

pub loop-i-preserved : goal.loop-i-preserved
loop-i-preserved c =
    let a = c.args in
    let h : c.loop-i.i < list_size a.list.now = omega (arith, c.count_in-i-end.ensures, c.loop-i-test.true) in
    let e = ap appointment_of c.entry_at-entry.ensures ∙ of_entry a.list.now c.loop-i.i in
    let is : only_on a.day a.other (appointment_at a.list.now c.loop-i.i) ≡ c.only_on.result = rw (← e) (sym c.only_on.ensures) in
    elim c.if-only_on.branch [
      | then-only_on w ↦
          rw (w.changes-is, w.place-is)
          (gathered_one a.list.now a.adds a.day a.other a.at a.changes.now c.loop-i.i c.loop-i.place c.loop-i.changes c.loop-i.invariant h (is ∙ w.if-only_on.true)
          w.change.result
          (gathered_room a.list.now a.adds a.day a.other a.at a.changes.now c.loop-i.i c.loop-i.place c.loop-i.changes c.loop-i.invariant h (is ∙ w.if-only_on.true) c.requires.1)
          (rw e at w.change.ensures))
      | else-only_on w ↦
          rw (w.changes-is, w.place-is)
          (gathered_other a.list.now a.adds a.day a.other a.at a.changes.now c.loop-i.i c.loop-i.place c.loop-i.changes c.loop-i.invariant h
          (is ∙ w.if-only_on.false))
    ]

pub returns : goal.returns
returns c =
    gathered_all c.args.list.now c.args.adds c.args.day c.args.other c.args.at c.args.changes.now c.loop-i.i c.loop-i.place c.loop-i.changes
    c.loop-i.invariant (omega (arith, c.count_in-i-end.ensures, c.loop-i-test.false))
