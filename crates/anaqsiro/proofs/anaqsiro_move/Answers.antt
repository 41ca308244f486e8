-- `anaqsiro::anaqsiro_move` meets its contract: the number is that of `moved`, and the value 0.
use Rattle.appointments.specs.Moves.{Moved}
use Rattle.anaqsiro.specs.Returned.{MoveReturns}
use Rattle.anaqsiro.proofs.Returning.{number_returned}
use Rattle.anaqsiro.proofs.anaqsiro_move.Goals as goal

pub returns : goal.returns
unfolding MoveReturns
returns c = let a = c.args in number_returned (λ n. Moved a.block.now a.list.now a.old a.new (n, c.moved.new.block)) c.moved.result c.moved.ensures c.returned.ensures
