-- The letters of the mask are among those that the kind may have.
use Rattle.index.proofs.laws.block.MayHave.{all_says}
use Rattle.index.proofs.block.letters.may_have_all.Goals as goal

pub returns : goal.returns
returns c = all_says c.args.kind c.letters_of.result c.letters_of.ensures c.args.mask
