-- `index::block::records::put_entry` meets its contract: key, id, and in the loop the counts.
use mathlib.Core.Path.{◌∙◌}
use native.Mathlib.Omega.{arith}
use Rattle.index.proofs.laws.text.Entering.{entering_first, entering_next, entering_last}
use Rattle.index.proofs.block.records.put_entry.Goals as goal

pub loop-k-preserved : goal.loop-k-preserved
loop-k-preserved c = (
  c.put_number-in-loop-k.ensures.rest.same_length ∙ c.loop-k.invariant.0,
  λ a s. entering_next (c.loop-k.invariant.1 a s) (omega arith) c.put_number-in-loop-k.ensures,
)

pub returns : goal.returns
returns c =
    entering_last c.requires.counts_len.0 (omega arith)
    (c.loop-k.invariant.1 _ (entering_first c.put_number.ensures c.put_number-2.ensures))
