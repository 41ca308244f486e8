-- `walk::rounds` ends: the measure is the number of rounds that are left.
use Rattle.rights.proofs.walk.+rounds.Given as goal

abbrev pub decreases-rounds : goal.decreases-rounds
decreases-rounds l = l.left
