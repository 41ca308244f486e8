-- `standing::put_text` meets its contract: the set is written, since its text fits.
use Rattle.standing.proofs.Texts.{never_refused, text_front}
use Rattle.standing.proofs.put_text.Goals as goal

pub returns-in_default : goal.returns-in_default
returns-in_default c = absurd (never_refused _ _ _ _ _ c.requires _ (rw c.number.ensures at c.in_default.ensures))

pub returns : goal.returns
returns c = text_front _ _ _ _ _ c.requires _ (rw c.number.ensures at c.in-Ok.ensures)
