-- Each name of a list is tested.
use native.Mathlib.Omega.{arith}
use Rattle.index.specs.Block.{IsName}
use Rattle.index.specs.Wide.{names}
use Rattle.index.proofs.laws.message.NameLists.{each_name, name_each, inside}
use Rattle.index.proofs.messages.names.WideLists.all_names.Goals as goal

-- The list stands inside the message.
pub number_at-requires : goal.number_at-requires
number_at-requires c = omega (arith, inside c.args.self.bytes.now c.args.self.placed c.args.q c.requires, c.offset_at-at.ensures.0, c.length_at-n.ensures.0)

pub returns-then-number_at-ge-NAMES : goal.returns-then-number_at-ge-NAMES
unfolding names
returns-then-number_at-ge-NAMES c all =
    let each = rw (← c.offset_at-at.ensures.0, ← c.length_at-n.ensures.0) at all in
    omega (arith, name_each c.args.self.bytes.now IsName c.offset_at-at.result c.length_at-n.result each c.loop-i.i (omega arith))

pub returns : goal.returns
unfolding names
returns c =
    rw (← c.offset_at-at.ensures.0, ← c.length_at-n.ensures.0)
    (each_name c.args.self.bytes.now IsName c.offset_at-at.result c.length_at-n.result (λ j l. c.loop-i.invariant j (omega arith)))
