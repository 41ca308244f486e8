-- A record is found where the search by halves ends, or it is missing.
use native.Mathlib.Omega.{arith}
use Rattle.index.proofs.laws.block.Known.{is_good}
use Rattle.index.proofs.laws.block.Finding.{is_gap}
use Rattle.index.proofs.block.good.GoodBlock.find.Goals as goal

pub returns-else-spot-want : goal.returns-else-spot-want
returns-else-spot-want c = is_gap (is_good c.args.self) c.place_of-i.ensures (λ o e. omega (arith, e))
