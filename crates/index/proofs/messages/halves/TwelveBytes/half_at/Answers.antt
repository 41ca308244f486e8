-- A half is read, field by field.
use Rattle.index.specs.Message.{half_at}
use Rattle.index.proofs.messages.halves.TwelveBytes.half_at.Goals as goal

pub returns : goal.returns
unfolding half_at
returns c = record {
  half = rw (c.kind_of.ensures, c.kind_in.ensures.0, c.number_at.ensures.is, c.number_at-2.ensures.is, c.mask_with.ensures.0, c.number.ensures.0);
  small = (c.number_at.ensures.small, c.number_at-2.ensures.small, c.mask_with.ensures.1);
}
