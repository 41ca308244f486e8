-- `walk::round` meets its contract. The loop's invariant: the round is through with the first j names.
use Rattle.std.proofs.Common.{arith}
use Rattle.index.specs.declared.Kind.TheVariants.{Membership}
use Rattle.index.specs.Block.{size}
use Rattle.rights.specs.work.Fronts.{Through}
use Rattle.rights.proofs.laws.ByNumber.{few_members}
use Rattle.rights.proofs.laws.Counting.{at_most, count_none}
use Rattle.rights.proofs.laws.walk.Fronts.{front_none}
use Rattle.rights.proofs.laws.walk.Rounding.{spread_none}
use Rattle.rights.proofs.laws.Known.{is_good}
use Rattle.rights.proofs.walk.round.Goals as goal

pub loop-j-init : goal.loop-j-init
loop-j-init c =
    let b = c.args.block.bytes.now in
    let ms = c.args.from.now in
    let names = c.args.names.now in (
      c.requires.marks.1,
      rw (c.requires.to_value.0, c.clear.ensures) (record {
        brought = spread_none b c.args.carry ms (Through b names 0) c.requires.marks.0 (λ i a. omega (arith, a.1));
        front = front_none ms;
      }),
      count_none (Through b names 0) (size b Membership) (λ i l a. omega (arith, a.1)),
    )

pub overflow_add-examined : goal.overflow_add-examined
overflow_add-examined c =
    omega (arith, at_most (c.spread-examined.ensures.examined c.loop-j.examined c.loop-j.invariant.2), few_members (is_good c.args.block))
