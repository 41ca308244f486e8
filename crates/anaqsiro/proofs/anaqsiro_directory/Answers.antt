-- `anaqsiro::anaqsiro_directory` meets its contract: the number is that of `make_directory`, and the value 0.
use Rattle.directory.specs.By.{MakesDirectory}
use Rattle.anaqsiro.specs.Returned.{DirectoryReturns}
use Rattle.anaqsiro.proofs.Returning.{number_returned}
use Rattle.anaqsiro.proofs.anaqsiro_directory.Goals as goal

pub returns : goal.returns
unfolding DirectoryReturns
returns c = let a = c.args in number_returned (λ n. MakesDirectory a.block.now a.directory.now (n, c.make_directory.new.directory)) c.make_directory.result c.make_directory.ensures c.returned.ensures
