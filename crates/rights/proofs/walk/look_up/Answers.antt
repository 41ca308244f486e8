-- `walk::look_up` meets its contract. The loop's invariant: the names so far have been looked up.
use Rattle.std.proofs.Common.{◌<◌, length, get_or, arith}
use Rattle.rights.proofs.laws.ByNumber.{no_more_members}
use Rattle.rights.proofs.laws.walk.Starting.{turn_of, turns_more, known, now, firsts_set, turns_set}
use Rattle.rights.proofs.laws.Known.{is_good, is_sized}
use Rattle.rights.proofs.walk.look_up.Goals as goal
use Rattle.rights.proofs.walk.look_up.Goals.{then-firsts-x, else-firsts-x}

pub loop-name-preserved : goal.loop-name-preserved
loop-name-preserved c =
    let names = c.requires.0 in
    let inv = c.loop-name.invariant in
    let j = c.loop-name.name-index in
    let l : j < length c.args.names.now = omega arith in
    let x = get_or c.args.names.now j 0 in
    let named = names.each j l in
    elim c.if-firsts-x.branch [
      | then-firsts-x w ↦
          let v = w.first_of.result in
          let found = w.first_of.ensures in
          let all = firsts_set names inv.0 x v named found in
          rw w.firsts-is (
            all,
            turns_more names all j (turns_set names inv.0 x v named found j inv.1) (turn_of names all j l (now names inv.0 x v named found)),
          )
      | else-firsts-x w ↦
          rw w.firsts-is (
            inv.0,
            turns_more names inv.0 j inv.1 (turn_of names inv.0 j l (known names inv.0 x named w.if-firsts-x.false)),
          )
    ]

pub overflow_cast-firsts : goal.overflow_cast-firsts
overflow_cast-firsts c = omega (arith, c.first_of.ensures.high, no_more_members (is_sized c.args.source.now.block) (is_good c.args.source.now.block))
