-- `standing::put_block` meets its contract: the sets of the three kinds, which fit.
use Rattle.std.proofs.Common.{◌+◌, ◌≤◌, ℕ, List, length, arith, length-append}
use Rattle.index.specs.declared.Kind.TheVariants.{Membership, Permission, Filter}
use Rattle.index.specs.Block.{name_count}
use Rattle.index.proofs.laws.text.Writes.{puts_then}
use Rattle.standing.specs.Printed.{set_lines, block_lines}
use Rattle.standing.specs.work.Room.{Usable, longest_sets}
use Rattle.standing.proofs.Lines.{puts_front}
use Rattle.standing.proofs.LinesBound.{block_bound}
use Rattle.standing.proofs.put_block.Goals as goal

all_fit : (b : List ℕ) → Usable b
    → length (set_lines b Membership 0 name_count)
    + (length (set_lines b Permission 0 name_count) + length (set_lines b Filter 0 name_count))
    ≤ longest_sets
unfolding block_lines
all_fit b u = omega (arith, simp length-append at (block_bound u))

pub put_sets-members-requires-clause-name_count_in_bounds : goal.put_sets-members-requires-clause-name_count_in_bounds
put_sets-members-requires-clause-name_count_in_bounds c = omega (arith, all_fit _ c.requires.0)

pub put_sets-permissions-requires-clause-name_count_in_bounds : goal.put_sets-permissions-requires-clause-name_count_in_bounds
put_sets-permissions-requires-clause-name_count_in_bounds c =
    omega (arith, all_fit _ c.requires.0, c.put_sets-members.ensures.ends, c.put_sets-members.auto.out)

pub put_sets-requires-clause-name_count_in_bounds : goal.put_sets-requires-clause-name_count_in_bounds
put_sets-requires-clause-name_count_in_bounds c =
    omega (
      arith,
      all_fit _ c.requires.0,
      c.put_sets-members.ensures.ends,
      c.put_sets-members.auto.out,
      c.put_sets-permissions.ensures.ends,
      c.put_sets-permissions.auto.out,
    )

pub returns : goal.returns
unfolding block_lines
returns c =
    puts_front
    (puts_then _ _ (puts_then _ _ c.put_sets-members.ensures c.put_sets-permissions.ensures) c.put_sets.ensures)
    (omega (arith, block_bound c.requires.0, c.requires.2))
