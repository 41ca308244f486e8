-- `standing::put_decimal` calls itself for fewer digits.
use Rattle.standing.proofs.+put_decimal.Given as goal

abbrev pub decreases-put_decimal : goal.decreases-put_decimal
decreases-put_decimal l = l.n
