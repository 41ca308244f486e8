-- `room::Room::new` meets its contract: no record has been looked up, of whichever block.
use Rattle.rights.proofs.laws.walk.Starting.{firsts_none}
use Rattle.rights.proofs.room.Room.new.Goals as goal

pub returns : goal.returns
returns c = λ b. firsts_none b
