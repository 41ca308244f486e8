-- A pair has the kind and the mask of its half.
use Rattle.index.specs.Wide.{mask_in}
use Rattle.index.proofs.messages.names.WideHeader.pair_with.Goals as goal

pub returns : goal.returns
unfolding mask_in
returns c = record {
  half = rw (c.kind_of.ensures, c.kind_in.ensures.0, c.mask_with.ensures.0, ← c.number.ensures.0);
  small = c.mask_with.ensures.1;
}
