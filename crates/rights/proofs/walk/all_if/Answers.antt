-- All four rights, or none.
use Rattle.std.proofs.Common.{◌≡◌, true}
use Rattle.index.proofs.laws.block.Masks.{mask_all}
use Rattle.rights.proofs.walk.all_if.Goals as goal

pub returns-then-yes : goal.returns-then-yes
returns-then-yes c = mask_all (λ k. c.args.yes ≡ true) (λ k. c.if-yes.true)
